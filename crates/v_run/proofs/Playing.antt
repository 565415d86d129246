-- A process follows its task in the closed history of its station, since its passage does and no other passage calls or collects for it.
use Rattle.std.proofs.Common.{◌≡◌, ℕ, ◌==◌, Bool, true, false, Option, List, [], ◌∷◌, ◌++◌, cond, refl, sym, ap, ◌∙◌, subst, append_assoc, append-nil}
use Rattle.std.specs.Prelude.{option_to_list}
use Rattle.vk_types.specs.Types.{Answer, Call, EventAnswer, Pid, StationEvent}
use Rattle.vk_base.specs.declared.event.StationEvent.TheVariants as events
use Rattle.vk_base.specs.Pids.{same_pid}
use Rattle.vk_host.specs.Values.{input_of}
use Rattle.vk_port.specs.Ports.{Action, Enters, Delivers, Drops, Hears}
use Rattle.vk_port.specs.Stations.{StationHistory, entries_at, entry_at}
use Rattle.vk_port.proofs.Histories.{entries_more}
use Rattle.vk_rules.specs.CallOutcomes.{given}
use Rattle.vk_rules.specs.Entries.{Called, Collected, Delivered, Entry, Input, Ticked}
use Rattle.v_run.specs.Passages.{IsNextCall}
use Rattle.v_ended.specs.Answered.{answers_of, called_by, calls_of, told_to}
use Rattle.v_run.specs.Outcomes.{FollowsTask, IsNextOf, is_doing_of}
use Rattle.v_run.specs.Passages.{IsNext, Plays, answer_in, answers_by, call_in, calls_by}
use Rattle.v_run.proofs.Totals.{Place, places}
use Rattle.v_run.proofs.Logs.{entered_places}
use Rattle.v_run.proofs.Entries.{input_is}

module _ (task : List Answer → Option Call) (r : Pid) (same : same_pid r r ≡ true) (o : StationHistory) where
  -- the same of places
  abbrev IsTurn : List Call → List Answer → StationEvent → Type 0
  IsTurn calls answers (events.Call pid c) = (pid ≡ r) × IsNextCall task calls answers c
  IsTurn calls answers (events.Collect pid) = pid ≡ r
  IsTurn calls answers e = Unit {0}

  abbrev PlaysAt : List Call → List Answer → List (Place StationEvent) → Type 0
  PlaysAt calls answers [] = Unit {0}
  PlaysAt calls answers (p ∷ ps) = IsTurn calls answers p.1 × PlaysAt (calls ++ call_in p.1) (answers ++ answer_in o p.0 p.1) ps

  turn_next : (calls : List Call) (answers : List Answer) (e : StationEvent) → IsNext task r calls answers e → IsTurn calls answers e
  turn_next calls answers (events.Call pid c) next = next
  turn_next calls answers (events.Collect pid) next = next
  turn_next calls answers events.Tick next = tt
  turn_next calls answers (events.Deliver f) next = tt

  pub plays_at : (calls : List Call) (answers : List Answer) (acts : List Action) → Plays task r o calls answers acts
      → PlaysAt calls answers (entered_places acts)
  plays_at calls answers [] plays = tt
  plays_at calls answers (Enters before e posted ∷ acts) plays =
      (turn_next calls answers e plays.0, plays_at (calls ++ call_in e) (answers ++ answer_in o before e) acts plays.1)
  plays_at calls answers (Delivers heard frame before posted ∷ acts) plays =
      let rest = plays_at calls answers acts plays in
      let P : List Call × List Answer → Type 0 = λ x. PlaysAt x.0 x.1 (entered_places acts) in
      (tt, subst P (λ i. (sym (append-nil calls) i, sym (append-nil answers) i)) rest)
  plays_at calls answers (Drops heard frame ∷ acts) plays = plays_at calls answers acts plays
  plays_at calls answers (Hears heard ∷ acts) plays = plays_at calls answers acts plays

  -- what it called and was told at these places
  abbrev calls_at : List (Place StationEvent) → List Call
  calls_at [] = []
  calls_at (p ∷ ps) = call_in p.1 ++ calls_at ps

  abbrev answers_at : List (Place StationEvent) → List Answer
  answers_at [] = []
  answers_at (p ∷ ps) = answer_in o p.0 p.1 ++ answers_at ps

  calls_by_places : (acts : List Action) → calls_at (entered_places acts) ≡ calls_by acts
  calls_by_places [] = refl
  calls_by_places (Enters before e posted ∷ acts) = ap (λ l. call_in e ++ l) (calls_by_places acts)
  calls_by_places (Delivers heard frame before posted ∷ acts) = calls_by_places acts
  calls_by_places (Drops heard frame ∷ acts) = calls_by_places acts
  calls_by_places (Hears heard ∷ acts) = calls_by_places acts

  answers_by_places : (acts : List Action) → answers_at (entered_places acts) ≡ answers_by o acts
  answers_by_places [] = refl
  answers_by_places (Enters before e posted ∷ acts) = ap (λ l. answer_in o before e ++ l) (answers_by_places acts)
  answers_by_places (Delivers heard frame before posted ∷ acts) = answers_by_places acts
  answers_by_places (Drops heard frame ∷ acts) = answers_by_places acts
  answers_by_places (Hears heard ∷ acts) = answers_by_places acts

  -- the entries of other seats are no doings of it
  abbrev pub NotOthers : ℕ → List (ℕ × StationEvent) → Type 0
  NotOthers n [] = Unit {0}
  NotOthers n (x ∷ xs) = ((x.0 == n) ≡ false → is_doing_of r (input_of x.1) ≡ false) × NotOthers n xs

  -- One entry.
  pid_test : (pid : Pid) → pid ≡ r → same_pid pid r ≡ true
  pid_test pid is = subst (λ q. same_pid q r ≡ true) (sym is) same

  cond_is : {A : Type 0} (b : Bool) (xs ys : List A) → b ≡ true → cond b xs ys ≡ xs
  cond_is true xs ys is = refl
  cond_is false xs ys is = absurd (cc is)

  cond_not : {A : Type 0} (b : Bool) (xs ys : List A) → b ≡ false → cond b xs ys ≡ ys
  cond_not true xs ys is = absurd (cc is)
  cond_not false xs ys is = refl

  called_own : (calls : List Call) (answers : List Answer) (e : StationEvent) → IsTurn calls answers e
      → called_by r (input_of e) ≡ call_in e
  called_own calls answers (events.Call pid c) turn = cond_is (same_pid pid r) (c ∷ []) [] (pid_test pid turn.0)
  called_own calls answers (events.Collect pid) turn = refl
  called_own calls answers events.Tick turn = refl
  called_own calls answers (events.Deliver f) turn = refl

  told_own : (calls : List Call) (answers : List Answer) (before : List (ℕ × StationEvent)) (e : StationEvent) → IsTurn calls answers e
      → told_to r (input_of e) (entry_at o before e).answer ≡ answer_in o before e
  told_own calls answers before (events.Call pid c) turn = cond_is (same_pid pid r) _ [] (pid_test pid turn.0)
  told_own calls answers before (events.Collect pid) turn = cond_is (same_pid pid r) _ [] (pid_test pid turn)
  told_own calls answers before events.Tick turn = refl
  told_own calls answers before (events.Deliver f) turn = refl

  next_own : (es : List Entry) (e : StationEvent) → IsTurn (calls_of r es) (answers_of r es) e → IsNextOf task r es (input_of e)
  next_own es (events.Call pid c) turn = λ is. turn.1
  next_own es (events.Collect pid) turn = tt
  next_own es events.Tick turn = tt
  next_own es (events.Deliver f) turn = tt

  called_other : (i : Input) → is_doing_of r i ≡ false → called_by r i ≡ []
  called_other (Called pid c) none = cond_not (same_pid pid r) (c ∷ []) [] none
  called_other (Collected pid) none = refl
  called_other Ticked none = refl
  called_other (Delivered u) none = refl

  told_other : (i : Input) (a : EventAnswer) → is_doing_of r i ≡ false → told_to r i a ≡ []
  told_other (Called pid c) a none = cond_not (same_pid pid r) (option_to_list (given a)) [] none
  told_other (Collected pid) a none = cond_not (same_pid pid r) (option_to_list (given a)) [] none
  told_other Ticked a none = refl
  told_other (Delivered u) a none = refl

  next_other : (es : List Entry) (i : Input) → is_doing_of r i ≡ false → IsNextOf task r es i
  next_other es (Called pid c) none = λ is. absurd (cc (is, none))
  next_other es (Collected pid) none = tt
  next_other es Ticked none = tt
  next_other es (Delivered u) none = tt

  abbrev Follows : List (ℕ × StationEvent) → Type 0
  Follows history = FollowsTask task r (entries_at o history)

  -- what has been called and told so far
  abbrev Calls : List (ℕ × StationEvent) → List Call
  Calls history = calls_of r (entries_at o history)

  abbrev Answers : List (ℕ × StationEvent) → List Answer
  Answers history = answers_of r (entries_at o history)

  calls_more : (acc : List (ℕ × StationEvent)) (x : ℕ × StationEvent) → Calls (acc ++ x ∷ []) ≡ Calls acc ++ called_by r (input_of x.1)
  calls_more acc x = ap (calls_of r) (entries_more o acc x) ∙ ap (λ i. Calls acc ++ called_by r i) (input_is o acc x.1)

  answers_more : (acc : List (ℕ × StationEvent)) (x : ℕ × StationEvent)
      → Answers (acc ++ x ∷ []) ≡ Answers acc ++ told_to r (input_of x.1) (entry_at o acc x.1).answer
  answers_more acc x =
      ap (answers_of r) (entries_more o acc x) ∙ ap (λ i. Answers acc ++ told_to r i (entry_at o acc x.1).answer) (input_is o acc x.1)

  follows_more : (acc : List (ℕ × StationEvent)) (x : ℕ × StationEvent) → Follows acc → IsNextOf task r (entries_at o acc) (input_of x.1)
      → Follows (acc ++ x ∷ [])
  follows_more acc x so next =
      subst (FollowsTask task r) (sym (entries_more o acc x))
      (subst (IsNextOf task r (entries_at o acc)) (sym (input_is o acc x.1)) next, so)

  -- After all entries.
  pub record Stands (history : List (ℕ × StationEvent)) (made : List Call) (told : List Answer) : Type 0 where
    pub follows : Follows history
    pub calls : Calls history ≡ made
    pub answers : Answers history ≡ told

  module _ (n : ℕ) where
    pub stands : (acc xs : List (ℕ × StationEvent)) (calls : List Call) (answers : List Answer) → Stands acc calls answers
        → PlaysAt calls answers (places n acc xs) → NotOthers n xs
        → Stands (acc ++ xs) (calls ++ calls_at (places n acc xs)) (answers ++ answers_at (places n acc xs))
    stands acc [] calls answers now plays others =
        let P : List (ℕ × StationEvent) × List Call × List Answer → Type 0 = λ x. Stands x.0 x.1 x.2 in
        subst P (λ i. (sym (append-nil acc) i, sym (append-nil calls) i, sym (append-nil answers) i)) now
    stands acc (x ∷ xs) calls answers now plays others = by (x.0 == n) refl plays (stands (acc ++ x ∷ []) xs)
      where
        more : List (ℕ × StationEvent)
        more = acc ++ x ∷ []

        rest : List (Place StationEvent)
        rest = places n (acc ++ x ∷ []) xs

        Last : List (ℕ × StationEvent) × List Call × List Answer → Type 0
        Last y = Stands y.0 y.1 y.2

        own_now : IsTurn calls answers x.1 → Stands (acc ++ x ∷ []) (calls ++ call_in x.1) (answers ++ answer_in o acc x.1)
        own_now turn =
            let here : IsTurn (Calls acc) (Answers acc) x.1 =
            subst (λ (y : List Call × List Answer). IsTurn y.0 y.1 x.1) (λ i. (sym now.calls i, sym now.answers i)) turn in
            record {
              follows = follows_more acc x now.follows (next_own (entries_at o acc) x.1 here);
              calls = calls_more acc x ∙ (ap (λ l. l ++ called_by r (input_of x.1)) now.calls
                  ∙ ap (λ l. calls ++ l) (called_own calls answers x.1 turn));
              answers = answers_more acc x
                  ∙ (ap (λ l. l ++ told_to r (input_of x.1) (entry_at o acc x.1).answer) now.answers
                  ∙ ap (λ l. answers ++ l) (told_own calls answers acc x.1 turn));
            }

        other_now : is_doing_of r (input_of x.1) ≡ false → Stands (acc ++ x ∷ []) calls answers
        other_now none = record {
          follows = follows_more acc x now.follows (next_other (entries_at o acc) (input_of x.1) none);
          calls = calls_more acc x ∙ (ap (λ l. Calls acc ++ l) (called_other (input_of x.1) none) ∙ (append-nil (Calls acc) ∙ now.calls));
          answers = answers_more acc x
              ∙ (ap (λ l. Answers acc ++ l) (told_other (input_of x.1) (entry_at o acc x.1).answer none)
              ∙ (append-nil (Answers acc) ∙ now.answers));
        }

        by : (b : Bool) → (x.0 == n) ≡ b → PlaysAt calls answers (cond b ((acc, x.1) ∷ rest) rest)
            → ((cs : List Call) (acts : List Answer) → Stands (acc ++ x ∷ []) cs acts → PlaysAt cs acts rest → NotOthers n xs
            → Stands ((acc ++ x ∷ []) ++ xs) (cs ++ calls_at rest) (acts ++ answers_at rest))
            → Stands (acc ++ (x ∷ xs)) (calls ++ calls_at (cond b ((acc, x.1) ∷ rest) rest)) (answers ++ answers_at (cond b ((acc, x.1)
            ∷ rest) rest))
        by true is plays goes =
            let it = goes (calls ++ call_in x.1) (answers ++ answer_in o acc x.1) (own_now plays.0) plays.1 others.1 in
            subst Last (λ i. (
              append_assoc acc (x ∷ []) xs i,
              append_assoc calls (call_in x.1) (calls_at rest) i,
              append_assoc answers (answer_in o acc x.1) (answers_at rest) i,
            )) it
        by false is plays goes =
            let it = goes calls answers (other_now (others.0 is)) plays others.1 in
            subst Last (λ i. (append_assoc acc (x ∷ []) xs i, calls ++ calls_at rest, answers ++ answers_at rest)) it

  -- the whole history
  pub whole : (n : ℕ) (acts : List Action) (history : List (ℕ × StationEvent)) → Plays task r o [] [] acts
      → places n [] history ≡ entered_places acts
      → NotOthers n history → Stands history (calls_by acts) (answers_by o acts)
  whole n acts history plays placed others =
      let none : Stands [] [] [] = record { follows = tt; calls = refl; answers = refl } in
      let it = stands n [] history [] [] none (subst (PlaysAt [] []) (sym placed) (plays_at [] [] acts plays)) others in
      let P : List Call × List Answer → Type 0 = λ x. Stands history x.0 x.1 in
      subst P (λ i. (
        (ap calls_at placed ∙ calls_by_places acts) i,
        (ap answers_at placed ∙ answers_by_places acts) i,
      )) it
