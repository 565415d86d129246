-- Seats of a station and of the hub that are dealt to the jobs of its node, and what is left.
use Rattle.std.proofs.Common.{◌≡◌, ℕ, suc, ◌+◌, Bool, true, false, Option, List, [], ◌∷◌, ◌++◌, append_assoc, length, refl, sym, ap, ◌∙◌, subst, arith}
use Rattle.std.proofs.lemmas.List.{length-append}
use Rattle.vk_types.specs.Types.{ProcessSpec, StationEvent}
use Rattle.turn_cell.specs.Seats.{Cell, IsSeatOf, Sitting, fresh}
use Rattle.vk_base.specs.Settings.{has_process}
use Rattle.vk_hub.specs.declared.event.HubEvent.{HubEvent}
use Rattle.vk_hub.specs.Hubs.{HubLog}
use Rattle.vk_port.specs.Ports.{PortValue, stand_of}
use Rattle.vk_port.specs.Stations.{StationHistory}
use Rattle.vk_program.specs.declared.assigned.Assigned.{Assigned}
use Rattle.vk_rules.specs.Each.{Each}
use Rattle.vk_rules.proofs.Lists.{each_front, each_behind}
use Rattle.vk_threads.specs.Duties.{ProcessDuty}
use Rattle.vk_udp.specs.Dealt.{AreNodeDealt, AreProcesses, IsNewAt, IsNodePort, IsProcessJob, IsStocked}
use Rattle.vk_udp.specs.Node.{IsProcessAt}
use Rattle.vk_udp.specs.Values.{CarrierDuty, ClockDuty}
use Rattle.vk_udp.specs.declared.work.NodeWork.{NodeWork}
use Rattle.vk_udp.specs.declared.work.NodeWork.TheVariants as works

one_less : {A : Type 0} (old new : List A) (x : A) (n : ℕ) → old ≡ new ++ x ∷ [] → length old ≡ suc n → length new ≡ n
one_less old new x n is all = let size = ap length is ∙ length-append new (x ∷ []) in omega arith

-- the seat that was taken out is just made
pub taken_seat : {S E : Type 0} (cell : Cell S) (old new : List (Sitting S E)) (seat : Sitting S E) → old ≡ new ++ seat ∷ []
    → Each (IsNewAt cell) old → IsNewAt cell seat
taken_seat cell old new seat is each = (each_behind (IsNewAt cell) new (seat ∷ []) (subst (Each (IsNewAt cell)) is each)).0

pub new_seat : {S E : Type 0} (cell : Cell S) (seat : Sitting S E) → IsNewAt cell seat → IsSeatOf cell seat
new_seat cell seat new = (ap (λ s. s.table) new.1, ap (λ s. s.origin) new.1)

module _ (cell : Cell StationHistory) (hub : Cell HubLog) (host : ℕ) where
  -- THE STOCK, once a seat of the station and one of the hub were taken out
  pub taken_stock : (n : ℕ) (old new : List (Sitting StationHistory StationEvent)) (seat : Sitting StationHistory StationEvent)
      (before after : List (Sitting HubLog HubEvent)) (hub_seat : Sitting HubLog HubEvent) → old ≡ new ++ seat ∷ []
      → before ≡ after ++ hub_seat ∷ [] → IsStocked cell hub host (suc n) old before → IsStocked cell hub host n new after
  taken_stock n old new seat before after hub_seat is at_hub stock = record {
    at = stock.at;
    each = each_front (IsNewAt cell) new (seat ∷ []) (subst (Each (IsNewAt cell)) is stock.each);
    all = one_less old new seat n is stock.all;
    at_hub = each_front (IsNewAt hub) after (hub_seat ∷ []) (subst (Each (IsNewAt hub)) at_hub stock.at_hub);
    all_at_hub = one_less before after hub_seat n at_hub stock.all_at_hub;
  }

  abbrev made_of : Bool → Sitting StationHistory StationEvent → Sitting HubLog HubEvent → PortValue
  made_of ticks seat hub_seat = record { host = host; station = cell; hub = hub; seat = seat; hub_seat = hub_seat; ticks = ticks }

  -- a port that was made of such seats
  pub port_made : (ticks : Bool) (seat : Sitting StationHistory StationEvent) (hub_seat : Sitting HubLog HubEvent) (p : PortValue)
      → IsNewAt cell seat → IsNewAt hub hub_seat → p ≡ made_of ticks seat hub_seat → IsNodePort cell hub host ticks p
  port_made ticks seat hub_seat p new hub_new is = subst (IsNodePort cell hub host ticks) (sym is) (record {
    at = refl;
    at_cell = refl;
    at_hub = refl;
    seat = new_seat cell seat new;
    hub_seat = new_seat hub hub_seat hub_new;
    new = ap (λ s. stand_of (made_of ticks s hub_seat)) new.1 ∙ ap (λ s. stand_of (made_of ticks (fresh cell new.0) s)) hub_new.1;
    may = refl;
  })

  job_push : {G P L S : Type 0} (front : List (Assigned G)) (ws : List (NodeWork G P L S)) (a : Assigned G) (w : NodeWork G P L S)
      → AreProcesses cell hub host front ws → IsProcessJob cell hub host a w → AreProcesses cell hub host (front ++ a ∷ []) (ws ++ w ∷ [])
  job_push [] [] a w are is = (is, tt)
  job_push [] (v ∷ ws) a w are is = absurd are
  job_push (b ∷ front) [] a w are is = absurd are
  job_push (b ∷ front) (v ∷ ws) a w are is = (are.0, job_push front ws a w are.1 is)

  -- one program's job more
  pub program_job : {G P L S : Type 0} (front yielded : List (Assigned G)) (jobs new : List (NodeWork G P L S)) (a : Assigned G) (port : PortValue)
      (duty : ProcessDuty G) → duty ≡ record { port = port; pid = a.pid; program = a.program } → new ≡ jobs ++ works.Process duty ∷ []
      → IsNodePort cell hub host false port → AreProcesses cell hub host (front ++ yielded) jobs
      → AreProcesses cell hub host (front ++ (yielded ++ a ∷ [])) new
  program_job {G} {P} {L} {S} front yielded jobs new a port duty is grown made are =
      let job : IsProcessJob {G = G} {P = P} {L = L} {S = S} cell hub host a (works.Process duty) = record {
        duty = duty;
        is = refl;
        pid = ap (λ (d : ProcessDuty G). d.pid) is;
        program = ap (λ (d : ProcessDuty G). d.program) is;
        port = subst (IsNodePort cell hub host false) (sym (ap (λ (d : ProcessDuty G). d.port) is)) made;
      } in
      subst (λ l. AreProcesses cell hub host l new) (append_assoc front yielded (a ∷ []))
      (subst (AreProcesses cell hub host ((front ++ yielded) ++ a ∷ [])) (sym grown)
      (job_push (front ++ yielded) jobs a (works.Process duty) are job))

  -- all jobs, of which the clock's and the last one were added behind those of the programs
  pub node_dealt : {G P L S : Type 0} (programs : List (Assigned G)) (rounds : ℕ) (duty last : Option CarrierDuty)
      (first second jobs : List (NodeWork G P L S)) (clock_port : PortValue) (clock : ClockDuty)
      → AreProcesses cell hub host programs first → second ≡ first ++ works.Clock clock ∷ [] → jobs ≡ second ++ works.Carrier last ∷ []
      → IsNodePort cell hub host true clock_port → clock ≡ record { port = clock_port; rounds = rounds } → last ≡ duty
      → AreNodeDealt cell hub host programs rounds duty jobs
  node_dealt {G} {P} {L} {S} programs rounds duty last first second jobs clock_port clock each one two ticks clock_is last_is = record {
    first = first;
    clock = clock;
    all = two ∙ (ap (λ l. l ++ works.Carrier last ∷ []) one ∙ append_assoc first (works.Clock clock ∷ []) (works.Carrier last ∷ []))
        ∙ ap (λ d. first ++ works.Clock clock ∷ works.Carrier d ∷ []) last_is;
    each = each;
    clock_port = subst (IsNodePort cell hub host true) (sym (ap (λ (d : ClockDuty). d.port) clock_is)) ticks;
    so_many = ap (λ (d : ClockDuty). d.rounds) clock_is;
  }

  process_count : {G P L S : Type 0} (programs : List (Assigned G)) (ws : List (NodeWork G P L S)) → AreProcesses cell hub host programs ws
      → length ws ≡ length programs
  process_count [] [] are = refl
  process_count [] (w ∷ ws) are = absurd are
  process_count (a ∷ programs) [] are = absurd are
  process_count (a ∷ programs) (w ∷ ws) are = ap suc (process_count programs ws are.1)

  -- how many jobs there are
  pub dealt_count : {G P L S : Type 0} (programs : List (Assigned G)) (rounds : ℕ) (duty : Option CarrierDuty) (jobs : List (NodeWork G P L S))
      → AreNodeDealt cell hub host programs rounds duty jobs → length jobs ≡ length programs + 2
  dealt_count programs rounds duty jobs d =
      let size = ap length d.all ∙ length-append d.first (works.Clock d.clock ∷ works.Carrier duty ∷ []) in
      let each = process_count programs d.first d.each in
      omega arith

-- what holds of a station's cell, the hub and the station's number holds of the same ones under other names
pub as_named : (P : Cell StationHistory → Cell HubLog → ℕ → Type 0) (cell cell2 : Cell StationHistory) (hub hub2 : Cell HubLog) (host host2 : ℕ)
    → cell2 ≡ cell → hub2 ≡ hub → host2 ≡ host → P cell2 hub2 host2 → P cell hub host
as_named P cell cell2 hub hub2 host host2 one two three holds =
    subst (λ c. P c hub host) one (subst (λ h. P cell2 h host) two (subst (P cell2 hub2) three holds))

pub have_processes : {G : Type 0} (specs : List ProcessSpec) (host : ℕ) (programs : List (Assigned G)) → Each (IsProcessAt specs host) programs
    → Each (λ (a : Assigned G). has_process specs a.pid ≡ true) programs
have_processes specs host [] are = tt
have_processes specs host (a ∷ programs) are = (are.0.0, have_processes specs host programs are.1)

-- one more was taken from the front
pub next_stock : {A : Type 0} (P : ℕ → Type 0) (rest left : List A) (a : A) (n : ℕ) → rest ≡ a ∷ left → P (length rest + n)
    → P (suc (length left + n))
next_stock P rest left a n is holds =
    let size = ap length is in let same : length rest + n ≡ suc (length left + n) = omega arith in subst P same holds
