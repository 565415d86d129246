-- From pieces of a text to the input.
use Rattle.std.proofs.Common.{◌≡◌, ℕ, ◌+◌, ◌<◌, true, false, List, ◌++◌, length, Option, Result, Ok, Err, IfOk, IfErr, inl, inr, refl, sym, ap, subst, ◌∙◌, arith, append-nil, append_assoc, length-append}
use Rattle.std.proofs.KnownBytes.{Consumes-trans}
use Rattle.std.specs.Io.KnownBytes.{Consumes}
use Rattle.vk_edge.proofs.PieceTexts.{is_text, unread_all}
use Rattle.vk_edge.proofs.Answers.{other_than}
use Rattle.vk_edge.specs.Inputs.{IsText}
use Rattle.vk_edge.specs.Pieces.{EndsLine, IsNextPiece, IsReadOut, IsUnreadBehind, Pieces}
use Rattle.vk_io.specs.declared.whole.ReadRefusal.{ReadRefusal}
use Rattle.vk_top.specs.Begun.{HasBegun, HasReadAll, IsFirstPiece, IsInputRefused, IsOnWay, IsRefusedAt, IsWorkOfInput, StaysRefused}
use Rattle.vk_top.proofs.Outcomes.{served_is, unread_is, unread_other}
use Rattle.vk_top.proofs.Told.{refused_is}
use Rattle.vk_top.specs.Statuses.{unread}
use Rattle.vk_top.specs.Top.{IsBehindText}
use Rattle.vk_top.specs.Work.{IsOutcome, IsRefusal, IsWork}
use Rattle.vk_top.specs.Checking.{HasCheckedAll}
use Rattle.vk_top.specs.declared.begun.Begun.{Begun}
use Rattle.vk_top.specs.declared.begun.Begun.TheVariants as begun
use Rattle.vk_top.specs.declared.checking.Checking.{Checking}
use Rattle.vk_top.specs.declared.status.Status.{Status}
use Rattle.vk_top.specs.declared.top.TextOutput.{TextOutput}
use Rattle.vk_top.specs.declared.words.TextCommand.{TextCommand}
use Rattle.vk_top.specs.declared.words.TextCommand.TheVariants as asked

module _ (left rest : Option (List ℕ)) (p : Pieces) (first : IsFirstPiece left rest p) where
  whole_taken : Consumes left rest (p.piece ++ p.behind)
  whole_taken = subst (Consumes left rest) first.text first.read.taken

  whole_counted : p.count ≡ length (p.piece ++ p.behind)
  whole_counted = let same : length first.bytes ≡ length (p.piece ++ p.behind) = ap length first.text in omega (arith, first.read.count, same)

module _ (a : TextCommand) (left mid rest : Option (List ℕ)) (p q : Pieces) (b : Begun) (way : IsOnWay a left mid p b)
    (next : IsNextPiece mid rest p.behind p.count q) where
  longer : (way.text ++ p.behind) ++ next.bytes ≡ (way.text ++ q.piece) ++ q.behind
  longer =
      append_assoc way.text p.behind next.bytes ∙ ap (λ l. way.text ++ l) next.text ∙ sym (append_assoc way.text q.piece q.behind)

  taken_more : Consumes left rest ((way.text ++ q.piece) ++ q.behind)
  taken_more =
      subst (Consumes left rest) longer
      (Consumes-trans left mid rest (way.text ++ p.behind) next.bytes way.taken next.read.taken)

  counted_more : q.count ≡ length ((way.text ++ q.piece) ++ q.behind)
  counted_more =
      next.read.count ∙ ap (λ n. n + length next.bytes) way.count
      ∙ sym (length-append (way.text ++ p.behind) next.bytes) ∙ ap length longer

  -- a piece more
  pub way_more : (c : Begun) → p.is_last ≡ false
      → ((text : List ℕ) → HasBegun a text b → EndsLine q.piece → HasBegun a (text ++ q.piece) c)
      → ((text : List ℕ) → HasBegun a text b → HasReadAll a (text ++ q.piece) c) → IsOnWay a left rest q c
  way_more c on more all = record {
    text = way.text ++ q.piece;
    taken = taken_more;
    count = counted_more;
    few = next.read.few;
    some = omega (arith, way.some, length-append way.text q.piece);
    begun = λ is. more way.text (way.begun on) (next.ends is);
    all = λ is. (all way.text (way.begun on), (next.last is).0, (next.last is).1);
  }

  -- at which the text is refused
  pub refused_more : (s : Status) → p.is_last ≡ false
      → ((text : List ℕ) → HasBegun a text b → StaysRefused a text q.piece s) → IsRefusedAt a left rest q s
  refused_more s on refused =
      let why = refused way.text (way.begun on) in
      record {
        text = way.text ++ q.piece;
        taken = taken_more;
        count = counted_more;
        few = next.read.few;
        whole = λ is. (why.0, (next.last is).0, (next.last is).1);
        further = λ is. why.1 (next.ends is);
      }

-- no piece more is to be read
module _ (a : TextCommand) (left rest : Option (List ℕ)) (p : Pieces) (b : Begun) (way : IsOnWay a left rest p b) (last : p.is_last ≡ true) where
  same_text : way.text ++ p.behind ≡ way.text
  same_text = ap (λ l. way.text ++ l) (way.all last).1 ∙ append-nil way.text

  whole_text : IsText left rest way.text
  whole_text =
      let counted : p.count ≡ length way.text = way.count ∙ ap length same_text in
      is_text left rest way.text (subst (Consumes left rest) same_text way.taken) (way.all last).2 (omega (arith, counted, way.few))

  pub work_done : (r : Result TextOutput Status) → ((text : List ℕ) → HasReadAll a text b → IfOk r (IsWork a text)) →
      IfOk r (IsWorkOfInput a left rest)
  work_done (Ok w) work = record { text = way.text; read = whole_text; work = work way.text (way.all last).0 }
  work_done (Err s) work = tt

  pub work_refused : (r : Result TextOutput Status) → ((text : List ℕ) → HasReadAll a text b → 0 < length text → IfErr r (IsRefusal a text)) →
      IfErr r (IsInputRefused a left rest)
  work_refused (Ok w) why = tt
  work_refused (Err s) why = inl (record { text = way.text; read = whole_text; why = why way.text (way.all last).0 way.some })

-- the rest of a text that is refused
module _ (a : TextCommand) (left mid : Option (List ℕ)) (p : Pieces) (s : Status) (refused : IsRefusedAt a left mid p s) where
  pub refused_skipped : (rest : Option (List ℕ)) (now : ℕ) → p.is_last ≡ false → IsReadOut mid rest p.count now → IsInputRefused a left rest s
  refused_skipped rest now more (bytes, read, end) =
      let same : (refused.text ++ p.behind) ++ bytes ≡ refused.text ++ (p.behind ++ bytes) = append_assoc refused.text p.behind bytes in
      let counted : now ≡ length (refused.text ++ (p.behind ++ bytes)) =
      read.count ∙ ap (λ n. n + length bytes) refused.count
      ∙ sym (length-append (refused.text ++ p.behind) bytes) ∙ ap length same in
      inl (record {
        text = refused.text ++ (p.behind ++ bytes);
        read = is_text left rest (refused.text ++ (p.behind ++ bytes))
            (subst (Consumes left rest) same (Consumes-trans left mid rest (refused.text ++ p.behind) bytes refused.taken read.taken))
            end (omega (arith, counted, read.few));
        why = refused.further more (p.behind ++ bytes);
      })

  pub refused_unread : (rest : Option (List ℕ)) (e : ReadRefusal) (t : Status) → t ≡ unread e → IsUnreadBehind p.count mid rest e →
      IsInputRefused a left rest t
  refused_unread rest e t is why =
      inr (
        e,
        is,
        unread_all left mid rest (refused.text ++ p.behind) e refused.taken
            (subst (λ n. IsUnreadBehind n mid rest e) refused.count why),
      )

-- an input that is not read on

pub unread_rest : (a : TextCommand) (left mid rest : Option (List ℕ)) (p : Pieces) (e : ReadRefusal) (t : Status) → IsFirstPiece left mid p →
    t ≡ unread e → IsUnreadBehind p.count mid rest e → IsInputRefused a left rest t
unread_rest a left mid rest p e t first is why =
    inr (
      e,
      is,
      unread_all left mid rest (p.piece ++ p.behind) e (whole_taken left mid p first)
          (subst (λ n. IsUnreadBehind n mid rest e) (whole_counted left mid p first) why),
    )

pub unread_on_way : (a : TextCommand) (left mid rest : Option (List ℕ)) (p : Pieces) (b : Begun) (e : ReadRefusal) (t : Status) →
    IsOnWay a left mid p b → t ≡ unread e → IsUnreadBehind p.count mid rest e → IsInputRefused a left rest t
unread_on_way a left mid rest p b e t way is why =
    inr (e, is, unread_all left mid rest (way.text ++ p.behind) e way.taken (subst (λ n. IsUnreadBehind n mid rest e) way.count why))

-- nothing is written of an input that is refused

pub refused_outcome : (Unchanged : Type 0) (a : TextCommand) (left rest old : Option (List ℕ)) (s : Status) → Unchanged →
    IsInputRefused a left rest s → IsOutcome Unchanged a left rest old old s
refused_outcome Unchanged a left rest old s same (inl refused) =
    served_is Unchanged a left rest old old refused.text refused.text s refused.read refl
    (refused_is a refused.text old Unchanged s same refused.read.small refused.why)
refused_outcome Unchanged a left rest old s same (inr (r, is, why)) = unread_is Unchanged a left rest old r s is same why

pub refused_other : (a : TextCommand) (left rest : Option (List ℕ)) (s why : Status) → ((text : List ℕ) → IsRefusal a text why → ⊥) →
    IsBehindText why → IsInputRefused a left rest s → ¬ (s ≡ why)
refused_other a left rest s why none behind (inl refused) = other_than (IsRefusal a refused.text) s why refused.why (none refused.text)
refused_other a left rest s why none behind (inr (r, is, unread)) = unread_other r s why is behind

-- work on a trace is the checking of one
pub of_check : (a : TextCommand) (text : List ℕ) (b : Begun) (s : Checking) → b ≡ begun.Check s → a ≡ asked.Check → HasReadAll a text b →
    HasCheckedAll text s
of_check a text b s is check all =
    subst (λ x. HasReadAll asked.Check text x) is (subst (λ x. HasReadAll x text b) check all)
