-- What a page server does with a request that it collects.
use Rattle.std.proofs.Common.{◌≡◌, ℕ, ◌≤◌, Bool, true, false, cond, ◌==◌, ◌&&◌, ◌||◌, not, nat_lt, nat_le, List, [], ◌∷◌, ◌++◌, length, if◌then◌else◌, refl, ap}
use Rattle.std.proofs.lemmas.Bool.{both_ways, cond_both, eqb-true, not-true, not-false}
use Rattle.vk_types.specs.Types.{Message, Pid, Process}
use Rattle.vk_base.specs.Messages.{grants_read, grants_write, segment_of}
use Rattle.vk_base.specs.Ranges.{range_of, bytes_in}
use Rattle.vk_event.specs.declared.task.TheConstants.{PAGE_BYTES}
use Rattle.vk_pages.specs.Messages.{code_of, page_of}
use Rattle.vk_pages.specs.Servers.{taken}
use Rattle.vk_pages.specs.declared.serving.PageServing.{PageServing}
use Rattle.vk_pages.specs.declared.serving.PageServing.TheVariants as stages
use Rattle.v_pages.specs.PageMap.{code_for, is_lawful_read, is_lawful_write, map_after}
use Rattle.v_pages.specs.Requests.{Request}
use Rattle.v_pages.proofs.Standing.{IsServing, Keeps, Standing, keeps_unwritten}

-- the tests of a request: whether it is a read, is a write, is for a page that there is, and grants what each asks for
abbrev all_of : Bool → Bool → Bool → Bool → Bool
all_of kind there access size = kind && there && access && size

not_of_kind : (kind there access size : Bool) → kind ≡ false → all_of kind there access size ≡ false
not_of_kind true there access size f = absurd (both_ways true f refl)
not_of_kind false there access size f = refl

no_such_page : (kind there access size : Bool) → there ≡ false → all_of kind there access size ≡ false
no_such_page true true access size f = absurd (both_ways true f refl)
no_such_page true false access size f = refl
no_such_page false there access size f = refl

not_granted : (kind there access size : Bool) → (access && size) ≡ false → all_of kind there access size ≡ false
not_granted true true true size f = f
not_granted true true false size f = refl
not_granted true false access size f = refl
not_granted false there access size f = refl

granted : (kind there access size : Bool) → kind ≡ true → there ≡ true → (access && size) ≡ true → all_of kind there access size ≡ true
granted true true true size a b c = c
granted true true false size a b c = c
granted true false access size a b c = absurd (both_ways false refl b)
granted false there access size a b c = absurd (both_ways false refl a)

-- the code of the reply by these tests
abbrev code_by : Bool → Bool → Bool → Bool → ℕ
code_by asks there reads writes = if not asks then 2 else if not there then 1 else if reads || writes then 0 else 2

asks_nothing : (asks there reads writes : Bool) → not asks ≡ true → code_by asks there reads writes ≡ 2
asks_nothing true there reads writes t = absurd (both_ways false refl t)
asks_nothing false there reads writes t = refl

asks_elsewhere : (asks there reads writes : Bool) → not asks ≡ false → not there ≡ true → code_by asks there reads writes ≡ 1
asks_elsewhere true true reads writes f t = absurd (both_ways false refl t)
asks_elsewhere true false reads writes f t = refl
asks_elsewhere false there reads writes f t = absurd (both_ways true f refl)

is_done : (asks there reads writes : Bool) → not asks ≡ false → not there ≡ false → writes ≡ true → code_by asks there reads writes ≡ 0
is_done true true true writes f g t = refl
is_done true true false true f g t = refl
is_done true true false false f g t = absurd (both_ways false refl t)
is_done true false reads writes f g t = absurd (both_ways true g refl)
is_done false there reads writes f g t = absurd (both_ways true f refl)

is_bad : (asks there reads writes : Bool) → not asks ≡ false → not there ≡ false → reads ≡ false → writes ≡ false →
    code_by asks there reads writes ≡ 2
is_bad true true true writes f g a b = absurd (both_ways true a refl)
is_bad true true false true f g a b = absurd (both_ways true b refl)
is_bad true true false false f g a b = refl
is_bad true false reads writes f g a b = absurd (both_ways true g refl)
is_bad false there reads writes f g a b = absurd (both_ways true f refl)

-- a read is no write
no_write_too : (code : ℕ) → (code == 1) ≡ true → (code == 2) ≡ false
no_write_too code t = ap (λ n. n == 2) (eqb-true code 1 t)

-- neither is neither
first_none : (a b : Bool) → not (a || b) ≡ true → a ≡ false
first_none true b t = absurd (both_ways false refl t)
first_none false b t = refl

second_none : (a b : Bool) → not (a || b) ≡ true → b ≡ false
second_none true b t = absurd (both_ways false refl t)
second_none false true t = absurd (both_ways false refl t)
second_none false false t = refl

-- one of the two is the second where it is not the first
then_second : (a b : Bool) → not (a || b) ≡ false → a ≡ false → b ≡ true
then_second true b f g = absurd (both_ways true g refl)
then_second false true f g = refl
then_second false false f g = absurd (both_ways true f refl)

pub asked : (pages : ℕ) (kept : List (List ℕ)) (all : List Request) (p : Process) (earlier : List Request) (q : Request) →
    all ≡ earlier ++ q ∷ [] → p.alive ≡ true → PAGE_BYTES ≤ length p.memory →
    bytes_in (range_of 0 PAGE_BYTES) p.memory ≡ q.bytes → Keeps pages kept (map_after pages earlier) →
    Standing pages kept all p (taken pages q.name.sender q.message)
asked pages kept all p earlier q last alive room bytes keeps =
    choose (not asks) (stages.Reply from (page_of m) 2) (cond (not there) none (cond reads by_read by_write))
    (λ t. refused 2 (asks_nothing asks there (is_lawful_read pages m) (is_lawful_write pages m) t)
    (not_of_kind reads there _ _ (first_none reads writes t))
    (not_of_kind writes there _ _ (second_none reads writes t)))
    (λ f. choose (not there) none (cond reads by_read by_write)
    (λ t. refused 1 (asks_elsewhere asks there (is_lawful_read pages m) (is_lawful_write pages m) f t)
    (no_such_page reads there _ _ (not-true there t))
    (no_such_page writes there _ _ (not-true there t)))
    (λ g. choose reads by_read by_write (λ r. reading f g r) (λ w. writing f g w)))
  where
    m : Message
    m = q.message

    from : Pid
    from = q.name.sender

    reads : Bool
    reads = code_of m == 1

    writes : Bool
    writes = code_of m == 2

    asks : Bool
    asks = reads || writes

    there : Bool
    there = nat_lt (page_of m) pages

    none : PageServing
    none = stages.Reply from (page_of m) 1

    may_write : Bool
    may_write = grants_write m && nat_le PAGE_BYTES (segment_of m).len

    may_read : Bool
    may_read = grants_read m && (segment_of m).len == PAGE_BYTES

    by_read : PageServing
    by_read = cond may_write (stages.Store from (page_of m) (segment_of m).start) (stages.Reply from (page_of m) 2)

    by_write : PageServing
    by_write = cond may_read (stages.Load from (page_of m)) (stages.Reply from (page_of m) 2)

    serving : IsServing all p from (page_of m)
    serving = record { earlier = earlier; request = q; last = last; sender = refl; asked = refl; alive = alive; room = room }

    choose : (b : Bool) (x y : PageServing) → (b ≡ true → Standing pages kept all p x) → (b ≡ false → Standing pages kept all p y) →
        Standing pages kept all p (cond b x y)
    choose b x y f g = cond_both b x y (Standing pages kept all p) f g

    refused : (code : ℕ) → code_for pages m ≡ code → is_lawful_read pages m ≡ false → is_lawful_write pages m ≡ false →
        Standing pages kept all p (stages.Reply from (page_of m) code)
    refused code told no_read no_write = record {
      serving = serving;
      no_read = no_read;
      told = told;
      keeps = keeps_unwritten pages kept all earlier q last no_write keeps;
    }

    bad : not asks ≡ false → not there ≡ false → is_lawful_read pages m ≡ false → is_lawful_write pages m ≡ false →
        Standing pages kept all p (stages.Reply from (page_of m) 2)
    bad f g no_read no_write =
        refused 2 (is_bad asks there (is_lawful_read pages m) (is_lawful_write pages m) f g no_read no_write) no_read no_write

    reading : not asks ≡ false → not there ≡ false → reads ≡ true → Standing pages kept all p by_read
    reading f g r =
        let no_write = not_of_kind writes there (grants_read m) ((segment_of m).len == PAGE_BYTES) (no_write_too (code_of m) r) in
        choose may_write (stages.Store from (page_of m) (segment_of m).start) (stages.Reply from (page_of m) 2)
        (λ t. record {
          serving = serving;
          lawful = granted reads there (grants_write m) (nat_le PAGE_BYTES (segment_of m).len) r (not-false there g) t;
          place = refl;
          before = keeps;
          keeps = keeps_unwritten pages kept all earlier q last no_write keeps;
        })
        (λ n. bad f g (not_granted reads there (grants_write m) (nat_le PAGE_BYTES (segment_of m).len) n) no_write)

    writing : not asks ≡ false → not there ≡ false → reads ≡ false → Standing pages kept all p by_write
    writing f g r =
        let w = then_second reads writes f r in
        let no_read = not_of_kind reads there (grants_write m) (nat_le PAGE_BYTES (segment_of m).len) r in
        choose may_read (stages.Load from (page_of m)) (stages.Reply from (page_of m) 2)
        (λ t. record {
          serving = serving;
          lawful = granted writes there (grants_read m) ((segment_of m).len == PAGE_BYTES) w (not-false there g) t;
          keeps = keeps;
          bytes = bytes;
        })
        (λ n. bad f g no_read (not_granted writes there (grants_read m) ((segment_of m).len == PAGE_BYTES) n))

-- a lawful write is done
pub write_done : (pages : ℕ) (m : Message) → is_lawful_write pages m ≡ true → (code_for pages m ≡ 0) × (is_lawful_read pages m ≡ false)
write_done pages m t = (
  done_by (code_of m == 1) (code_of m == 2) (nat_lt (page_of m) pages) (is_lawful_read pages m) (grants_read m)
      ((segment_of m).len == PAGE_BYTES) t,
  not_of_kind (code_of m == 1) (nat_lt (page_of m) pages) (grants_write m) (nat_le PAGE_BYTES (segment_of m).len) not_read,
)
  where
    done_by : (a b there reads access size : Bool) → all_of b there access size ≡ true →
        code_by (a || b) there reads (all_of b there access size) ≡ 0
    done_by a true true reads true true t = is_done (a || true) true reads true (either a) refl refl
      where
        either : (a : Bool) → not (a || true) ≡ false
        either true = refl
        either false = refl
    done_by a true true reads true false t = absurd (both_ways false refl t)
    done_by a true true reads false size t = absurd (both_ways false refl t)
    done_by a true false reads access size t = absurd (both_ways false refl t)
    done_by a false there reads access size t = absurd (both_ways false refl t)

    kind_of : (b there access size : Bool) → all_of b there access size ≡ true → b ≡ true
    kind_of true there access size t = refl
    kind_of false there access size t = t

    not_read : (code_of m == 1) ≡ false
    not_read = ap (λ n. n == 1)
        (eqb-true (code_of m) 2 (kind_of (code_of m == 2) (nat_lt (page_of m) pages) (grants_read m) ((segment_of m).len == PAGE_BYTES) t))

-- and so is a lawful read
pub read_done : (pages : ℕ) (m : Message) → is_lawful_read pages m ≡ true → code_for pages m ≡ 0
read_done pages m t = done_by (code_of m == 1) (code_of m == 2) (nat_lt (page_of m) pages) (grants_write m)
    (nat_le PAGE_BYTES (segment_of m).len) (is_lawful_write pages m) t
  where
    done_by : (a b there access size writes : Bool) → all_of a there access size ≡ true →
        code_by (a || b) there (all_of a there access size) writes ≡ 0
    done_by true b true true true writes t = refl
    done_by true b true true false writes t = absurd (both_ways false refl t)
    done_by true b true false size writes t = absurd (both_ways false refl t)
    done_by true b false access size writes t = absurd (both_ways false refl t)
    done_by false b there access size writes t = absurd (both_ways false refl t)
