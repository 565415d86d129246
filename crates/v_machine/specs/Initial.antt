-- Internal: no public contract rests on this file. The lists of the initial kernel.
use Rattle.std.specs.Prelude.{◌≡◌, true, List, [], ◌∷◌, ◌++◌, map, replicate, None}
use Rattle.vk_types.specs.Types.{ProcessSpec}
use Rattle.vk_base.specs.declared.activity.Activity.TheVariants as activities
use Rattle.v_machine.specs.declared.tables.proc.Proc.{Proc}
use Rattle.v_machine.specs.declared.tables.Store.{Store}

abbrev pub initial_proc : ProcessSpec → Proc
initial_proc s = record { alive = true; memory = replicate s.size 0; activity = activities.Ready; moving = None }

abbrev pub nothing : {X : Type 0} → ProcessSpec → List X
nothing s = []

-- each of these processes is ready and has begun nothing
pub record IsInitial (specs : List ProcessSpec) (s : Store) : Type 0 where
  pub procs : s.procs.items ≡ map initial_proc specs
  pub sends : s.sends.items ≡ map nothing specs
  pub asked : s.asked.items ≡ map nothing specs
  pub queues : s.queues.items ≡ map nothing specs
  pub latest : s.latest.items ≡ map nothing specs
  pub names : s.names.items ≡ []
  pub arrived : s.arrived ≡ []

-- the lists have one more process, which has begun nothing
pub record IsGrown (spec : ProcessSpec) (old new : Store) : Type 0 where
  pub places : new.places ≡ old.places
  pub procs : new.procs.items ≡ old.procs.items ++ initial_proc spec ∷ []
  pub sends : new.sends.items ≡ old.sends.items ++ [] ∷ []
  pub asked : new.asked.items ≡ old.asked.items ++ [] ∷ []
  pub queues : new.queues.items ≡ old.queues.items ++ [] ∷ []
  pub latest : new.latest.items ≡ old.latest.items ++ [] ∷ []
  pub names : new.names.items ≡ old.names.items
  pub arrived : new.arrived ≡ old.arrived
