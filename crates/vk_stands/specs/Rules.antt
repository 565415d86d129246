-- What a rule of a station promises: for every reading that the tables stand for it makes the steps and the packets of the right
-- entry, and the tables then stand for the reading after that entry.
use Rattle.std.specs.Prelude.{ℕ, ◌≡◌, List, ◌++◌, map, Option, Some, None}
use Rattle.vk_types.specs.Types.{Call, EventAnswer, Outcome, Pid, Step, Times}
use Rattle.vk_base.specs.declared.event.EventAnswer.TheVariants as events_answered
use Rattle.vk_base.specs.Activities.{answer_of}
use Rattle.vk_base.specs.Packets.{Packet}
use Rattle.vk_base.specs.Settings.{Settings}
use Rattle.vk_frame.specs.declared.header.Header.{Header}
use Rattle.vk_packet.specs.Posts.{Posts}
use Rattle.vk_packet.specs.Spelling.{packet_bytes}
use Rattle.vk_rules.specs.Entries.{Entry, Called, Delivered}
use Rattle.vk_rules.specs.Frames.{Frame, Framed, destination_of}
use Rattle.vk_rules.specs.Readings.{Reading, reading_after}
use Rattle.vk_rules.specs.Right.{answer_to, right_entry}
use Rattle.vk_stands.specs.Stands.{Stands}
use Rattle.vk_stands.specs.Tables.{Tables}

-- packets go out in order, each for its station
abbrev pub post_of : Packet → ℕ × List ℕ
post_of p = (destination_of p, packet_bytes p)

abbrev pub posted : Posts → List Packet → Posts
posted o ps = record o { posts = o.posts ++ map post_of ps }

abbrev pub packets_in : Entry → List Packet
packets_in e = map (λ (f : Frame). f.packet) e.frames

-- what a rule is handed, and what it gives back
pub record Doing : Type 0 where
  pub tables : Tables
  pub steps : List Step
  pub out : Posts

-- it makes this entry
pub record Makes (c : Settings) (host : ℕ) (r : Reading) (e : Entry) (before after : Doing) : Type 0 where
  pub steps : after.steps ≡ before.steps ++ e.steps
  pub packets : after.out ≡ posted before.out (packets_in e)
  pub stands : Stands c.times host after.tables (reading_after c.times r e)

-- For a call: also its answer.
abbrev pub IsCallRule : (times : Times) (host now : ℕ) (pid : Pid) (call : Call) (answer : EventAnswer) (before after : Doing) → Type 0
IsCallRule times host now pid call answer before after =
    (c : Settings) (r : Reading) → c.times ≡ times → r.now ≡ now → Stands times host before.tables r →
    (answer ≡ answer_to c host r (Called pid call)) × Makes c host r (right_entry c host r (Called pid call)) before after

-- For a packet of a frame that is taken, with this stamp.
abbrev pub IsPacketRule : (times : Times) (host now stamp : ℕ) (packet : Packet) (before after : Doing) → Type 0
IsPacketRule times host now stamp packet before after =
    (c : Settings) (r : Reading) (h : Header) → c.times ≡ times → r.now ≡ now → h.stamp ≡ stamp → Stands times host before.tables r →
    answer_to c host r (Delivered (Framed h packet)) ≡ events_answered.Taken →
    Makes c host r (right_entry c host r (Delivered (Framed h packet))) before after

-- The answer of a call, as a rule gives it: none where the call is begun.
abbrev pub given_by : Option Outcome → EventAnswer
given_by None = events_answered.Begun
given_by (Some o) = events_answered.Answered (answer_of o)
