-- Lines of ports: how they are spelled, that they are read again, and one after another.
use Rattle.std.proofs.Common.{◌≡◌, ℕ, ◌+◌, ◌<◌, ◌^◌, true, List, [], ◌∷◌, ◌++◌, length, map, decimal, codes, Option, Some, None, refl, ap, sym, ◌∙◌, subst, arith, append_assoc, append-nil, length-append}
use Rattle.std.specs.List.{AllByRecursion}
use Rattle.std.specs.Option.{option_map_or}
use Rattle.std.proofs.lemmas.Option.{cond_some}
use Rattle.vk_types.specs.Types.{ProcessSpec}
use Rattle.vk_base.proofs.OptionLemmas.{bind_is}
use Rattle.vk_text.specs.Lines.{words_from}
use Rattle.vk_text.specs.Spelling.{joined}
use Rattle.vk_text.specs.Heads.{HasNoFeed}
use Rattle.vk_text.specs.Words.{positive_of, station_of}
use Rattle.vk_text.proofs.Firsts.{first_spelled, first_holds, ended_is}
use Rattle.vk_text.proofs.PlainWords.{IsPlain, letters, number_plain, no_spaces, no_feeds, joined_no_feed}
use Rattle.vk_text.proofs.ReadBack.{joined_words, line_joined}
use Rattle.vk_text.proofs.Spelled.{either_word, positive_spelled, positive_read, station_spelled, station_read}
use Rattle.vk_schedule.specs.Lawful.{IsStation}
use Rattle.vk_schedule.proofs.Lawfulness.{station_fits}
use Rattle.vk_event.specs.Ports.{ArePortsAbove, IsReadablePort, if_follows, may_follow, port_above, port_fields_of, port_of, port_text, port_words, ports_from, with_port}
use Rattle.vk_event.specs.declared.port.StationPort.{StationPort}

-- one line

host_spelled : (n : ℕ) (word : List ℕ) → station_of word ≡ Some n → word ≡ decimal n
host_spelled n word h = (station_spelled n word h).0

abbrev IsPort : ℕ → Type 0
IsPort n = (0 < n) × (n < 2 ^ 16)

number_as : (n : ℕ) (word : List ℕ) → positive_of 65535 word ≡ Some n → word ≡ decimal n
number_as n word h = (positive_spelled 65535 n word (omega arith) h).0

number_fits : (n : ℕ) (word : List ℕ) → positive_of 65535 word ≡ Some n → IsPort n
number_fits n word h =
    let read = positive_spelled 65535 n word (omega arith) h in
    let most = read.2 in (read.1, omega (arith, most))

fields_are : (ws : List (List ℕ)) (p : StationPort) → port_fields_of ws ≡ Some p → IsReadablePort p × (codes "port" ∷ ws ≡ port_words p)
unfolding port_fields_of
fields_are ws p h =
    let host = first_spelled station_of decimal host_spelled _ p ws h in
    let known = first_holds station_of IsStation station_fits _ p ws h in
    let port = first_spelled (positive_of 65535) decimal number_as _ p host.1 host.3 in
    let fits = first_holds (positive_of 65535) IsPort number_fits _ p known.1 known.3 in
    let end = ended_is port.1 _ p port.3 in
    let last = ended_is fits.1 _ p fits.3 in (
      subst IsReadablePort last.1 (known.2, fits.2.0, fits.2.1),
      ap (λ l. codes "port" ∷ l) (host.2 ∙ ap (λ l. decimal host.0 ∷ l) (port.2 ∙ ap (λ l. decimal port.0 ∷ l) end.0)) ∙ ap port_words end.1,
    )

port_is : (ws : List (List ℕ)) (p : StationPort) → port_of ws ≡ Some p → IsReadablePort p × (ws ≡ port_words p)
unfolding port_of
port_is [] p h = cc
port_is (w ∷ ws) p h =
    either_word (IsReadablePort p × (w ∷ ws ≡ port_words p)) w (codes "port") _ _ (Some p)
    (λ f g. let is = fields_are ws p g in (is.0, ap (λ v. v ∷ ws) f ∙ is.1)) (λ none. cc) h

port_read : (p : StationPort) → IsReadablePort p → port_of (port_words p) ≡ Some p
unfolding port_of port_fields_of
port_read p h =
    let few = h.2 in rw (station_read p.host h.0.0 h.0.1, positive_read 65535 p.port (omega arith) h.1 (omega (arith, few))) refl

port_plain : (p : StationPort) → IsReadablePort p → AllByRecursion IsPlain (port_words p)
port_plain p h =
    let host = h.0.1 in
    let few = h.2 in
    (letters (codes "port") refl, (number_plain p.host (omega (arith, host)), (number_plain p.port (omega (arith, few)), tt)))

pub port_parts : (p : StationPort) → IsReadablePort p → words_from (port_text p) 0 ≡ port_words p
port_parts p h = joined_words (port_words p) (omega arith) (no_spaces (port_words p) (port_plain p h))

pub port_line : (p : StationPort) → IsReadablePort p → port_of (words_from (port_text p) 0) ≡ Some p
port_line p h = ap port_of (port_parts p h) ∙ port_read p h

pub port_feed : (p : StationPort) → IsReadablePort p → HasNoFeed (port_text p)
port_feed p h = joined_no_feed (port_words p) (no_feeds (port_words p) (port_plain p h))

-- a line more, as code reads them

abbrev pub Found : Type 0
Found = List StationPort × List (List ℕ)

abbrev pub behind : List StationPort → Found → Found
behind done found = (done ++ found.0, found.1)

next : (specs : List ProcessSpec) (last : ℕ) (l : List ℕ) (left ls : List (List ℕ)) (o : Option StationPort) → left ≡ l ∷ ls
    → port_above specs last l ≡ o
    → ports_from specs last left ≡ option_map_or (λ p. with_port p (ports_from specs p.host ls)) o ([], l ∷ ls)
unfolding ports_from
next specs last l left ls o here line =
    ap (ports_from specs last) here ∙ ap (λ x. option_map_or (λ p. with_port p (ports_from specs p.host ls)) x ([], l ∷ ls)) line

pub port_more : (all : Found) (specs : List ProcessSpec) (done : List StationPort) (last : ℕ) (l : List ℕ) (left ls : List (List ℕ))
    (p : StationPort) → all ≡ behind done (ports_from specs last left) → left ≡ l ∷ ls → port_above specs last l ≡ Some p
    → all ≡ behind (done ++ p ∷ []) (ports_from specs p.host ls)
port_more all specs done last l left ls p so here line =
    so ∙ ap (behind done) (next specs last l left ls (Some p) here line)
    ∙ ap (λ (ps : List StationPort). let found : Found = (ps, (ports_from specs p.host ls).1) in found)
    (sym (append_assoc done (p ∷ []) (ports_from specs p.host ls).0))

pub other_line : (all : Found) (specs : List ProcessSpec) (done : List StationPort) (last : ℕ) (l : List ℕ) (left ls : List (List ℕ))
    → all ≡ behind done (ports_from specs last left) → left ≡ l ∷ ls → port_above specs last l ≡ None → all ≡ (done, left)
other_line all specs done last l left ls so here line =
    so ∙ ap (behind done) (next specs last l left ls None here line)
    ∙ ap (λ (ps : List StationPort). let found : Found = (ps, l ∷ ls) in found) (append-nil done)
    ∙ ap (λ (k : List (List ℕ)). let found : Found = (done, k) in found) (sym here)

pub no_line_left : (all : Found) (specs : List ProcessSpec) (done : List StationPort) (last : ℕ) (left : List (List ℕ))
    → all ≡ behind done (ports_from specs last left) → left ≡ [] → all ≡ (done, left)
unfolding ports_from
no_line_left all specs done last left so here =
    so ∙ ap (λ (k : List (List ℕ)). behind done (ports_from specs last k)) here
    ∙ ap (λ (ps : List StationPort). let found : Found = (ps, []) in found) (append-nil done)
    ∙ ap (λ (k : List (List ℕ)). let found : Found = (done, k) in found) (sym here)

pub one_longer : (ps qs : List StationPort) (p : StationPort) → qs ≡ ps ++ p ∷ [] → length qs ≡ length ps + 1
one_longer ps qs p h = ap (λ (l : List StationPort). length l) h ∙ length-append ps (p ∷ [])

-- what lines tell, and that it is read again

abbrev IsToldBy : List ProcessSpec → ℕ → List (List ℕ) → Found → Type 0
IsToldBy specs last lines found = ArePortsAbove specs last found.0 × (lines ≡ map port_text found.0 ++ found.1)

above_is : (specs : List ProcessSpec) (last : ℕ) (l : List ℕ) (p : StationPort) → port_above specs last l ≡ Some p
    → IsReadablePort p × (may_follow specs last p ≡ true) × (l ≡ port_text p)
above_is specs last l p h =
    let step = bind_is (port_of (words_from l 0)) (if_follows specs last) p h in
    let test = cond_some (may_follow specs last step.0) step.0 p step.2 in
    let is = port_is (words_from l 0) step.0 step.1 in (
      subst IsReadablePort test.1 is.0,
      subst (λ (q : StationPort). may_follow specs last q ≡ true) test.1 test.0,
      sym (line_joined l) ∙ ap joined is.1 ∙ ap port_text test.1,
    )

told_by : (specs : List ProcessSpec) (last : ℕ) (l : List ℕ) (ls : List (List ℕ)) (o : Option StationPort) → port_above specs last l ≡ o
    → ((p : StationPort) → IsToldBy specs p.host ls (ports_from specs p.host ls))
    → IsToldBy specs last (l ∷ ls) (option_map_or (λ p. with_port p (ports_from specs p.host ls)) o ([], l ∷ ls))
told_by specs last l ls None is rest = (tt, refl)
told_by specs last l ls (Some p) is rest =
    let line = above_is specs last l p is in
    let more = rest p in ((line.0, line.1, more.0), ap (λ k. k ∷ ls) line.2 ∙ ap (λ k. port_text p ∷ k) more.1)

pub ports_told : (specs : List ProcessSpec) (last : ℕ) (lines : List (List ℕ)) → IsToldBy specs last lines (ports_from specs last lines)
unfolding ports_from
ports_told specs last [] = (tt, refl)
ports_told specs last (l ∷ ls) = told_by specs last l ls (port_above specs last l) refl (λ p. ports_told specs p.host ls)

above_read : (specs : List ProcessSpec) (last : ℕ) (p : StationPort) → IsReadablePort p → may_follow specs last p ≡ true
    → port_above specs last (port_text p) ≡ Some p
above_read specs last p h may = rw (port_line p h, may) refl

no_port_above : (specs : List ProcessSpec) (last : ℕ) (l : List ℕ) → port_of (words_from l 0) ≡ None → port_above specs last l ≡ None
no_port_above specs last l h = rw h refl

pub ports_back : (specs : List ProcessSpec) (last : ℕ) (ports : List StationPort) (l : List ℕ) (ls : List (List ℕ))
    → ArePortsAbove specs last ports → port_of (words_from l 0) ≡ None
    → ports_from specs last (map port_text ports ++ l ∷ ls) ≡ (ports, l ∷ ls)
unfolding ports_from
ports_back specs last [] l ls h none =
    ap (λ x. option_map_or (λ p. with_port p (ports_from specs p.host ls)) x ([], l ∷ ls)) (no_port_above specs last l none)
ports_back specs last (p ∷ ps) l ls h none =
    ap (λ x. option_map_or (λ q. with_port q (ports_from specs q.host (map port_text ps ++ l ∷ ls))) x
    ([], port_text p ∷ (map port_text ps ++ l ∷ ls))) (above_read specs last p h.0 h.1)
    ∙ ap (with_port p) (ports_back specs p.host ps l ls h.2 none)

pub ports_feeds : (specs : List ProcessSpec) (last : ℕ) (ports : List StationPort) (rest : List (List ℕ)) → ArePortsAbove specs last ports
    → AllByRecursion HasNoFeed rest → AllByRecursion HasNoFeed (map port_text ports ++ rest)
ports_feeds specs last [] rest h r = r
ports_feeds specs last (p ∷ ps) rest h r = (port_feed p h.0, ports_feeds specs p.host ps rest h.2 r)
