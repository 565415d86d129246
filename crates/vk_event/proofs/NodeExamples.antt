-- The definitions, tried: what two stations tell, and what is bad.
use Rattle.std.proofs.Common.{◌≡◌, ℕ, List, [], ◌∷◌, ◌++◌, codes, length, map, Result, Ok, Err, refl}
use Rattle.hex.specs.Hex.{decode_pairs}
use Rattle.vk_base.specs.Pids.{pid_of_numbers}
use Rattle.vk_base.specs.Settings.{fault_of}
use Rattle.vk_text.specs.Calls.{send_of}
use Rattle.vk_text.specs.Heads.{process_of, processes_from, spec_of, with_line}
use Rattle.vk_text.specs.Lines.{lines_of, words_from}
use Rattle.vk_text.specs.Openings.{first_pool, pool_fields_of, pool_line_of, pools_from, times_fields_of, times_of}
use Rattle.vk_text.specs.Words.{message_of, number_of, pid_of, positive_of}
use Rattle.vk_schedule.specs.declared.schedule.TextRefusal.{TextRefusal}
use Rattle.vk_schedule.specs.declared.schedule.TextRefusal.TheVariants as refusals
use Rattle.vk_event.specs.declared.node.NodeTexts.{NodeTexts}
use Rattle.vk_schedule.specs.declared.log.StationLog.{StationLog}
use Rattle.vk_event.specs.Nodes.{delivery_of, frame_of, host_of, named_of, node_opening, nodes_from, nodes_of, own_call_of, own_collect_of, station_event_of}

-- the stations and how many events each has, or why the texts are refused
abbrev seen : Result NodeTexts TextRefusal → Result (List (ℕ × ℕ)) TextRefusal
seen (Ok n) = Ok (map (λ (l : StationLog). (l.host, length l.events)) n.logs)
seen (Err e) = Err e

abbrev told : List ℕ → Result (List (ℕ × ℕ)) TextRefusal
told text = seen (nodes_of text)

abbrev opening : List ℕ
opening = codes "vkernel node 1\ntimes 5 4 8\nprocess 1.1 64\nprocess 2.1 64\n"

-- the text of station 2
abbrev second : List ℕ
second = codes "vkernel node 1\ntimes 5 4 8\nprocess 1.1 64\nprocess 2.1 64\nstation 2\ncall 2.1 send 1.1 0a\n"

no_text : told [] ≡ Err (refusals.BadInput 1)
unfolding lines_of node_opening times_of times_fields_of positive_of number_of words_from processes_from pools_from
    first_pool pool_line_of pool_fields_of process_of spec_of with_line fault_of pid_of
    pid_of_numbers host_of named_of
    station_event_of own_call_of own_collect_of send_of message_of delivery_of frame_of decode_pairs nodes_from
no_text = refl

-- station 2 sends, and station 1 takes a frame of 33 bytes
both_stations : told (second ++ opening ++ codes "station 1\nframe 000102030405060708090a0b0c0d0e0f101112131415161718191a1b1c1d1e1f20\n") ≡ Ok ((2, 1) ∷ (1, 1) ∷ [])
unfolding lines_of node_opening times_of times_fields_of positive_of number_of words_from processes_from pools_from
    first_pool pool_line_of pool_fields_of process_of spec_of with_line fault_of pid_of
    pid_of_numbers host_of named_of
    station_event_of own_call_of own_collect_of send_of message_of delivery_of frame_of decode_pairs nodes_from
both_stations = refl

-- a frame of 32 bytes
short_frame : told (second ++ opening ++ codes "station 1\nframe 000102030405060708090a0b0c0d0e0f101112131415161718191a1b1c1d1e1f\n") ≡ Err (refusals.BadInput 12)
unfolding lines_of node_opening times_of times_fields_of positive_of number_of words_from processes_from pools_from
    first_pool pool_line_of pool_fields_of process_of spec_of with_line fault_of pid_of
    pid_of_numbers host_of named_of
    station_event_of own_call_of own_collect_of send_of message_of delivery_of frame_of decode_pairs nodes_from
short_frame = refl

-- other times in the second text
other_times : told (second ++ codes "vkernel node 1\ntimes 5 4 9\n") ≡ Err (refusals.BadInput 8)
unfolding lines_of node_opening times_of times_fields_of positive_of number_of words_from processes_from pools_from
    first_pool pool_line_of pool_fields_of process_of spec_of with_line fault_of pid_of
    pid_of_numbers host_of named_of
    station_event_of own_call_of own_collect_of send_of message_of delivery_of frame_of decode_pairs nodes_from
other_times = refl

-- station 2 once more
twice : told (second ++ opening ++ codes "station 2\n") ≡ Err (refusals.BadInput 11)
unfolding lines_of node_opening times_of times_fields_of positive_of number_of words_from processes_from pools_from
    first_pool pool_line_of pool_fields_of process_of spec_of with_line fault_of pid_of
    pid_of_numbers host_of named_of
    station_event_of own_call_of own_collect_of send_of message_of delivery_of frame_of decode_pairs nodes_from
twice = refl

-- a process of another station
foreign : told (second ++ codes "collect 1.1\n") ≡ Err (refusals.BadInput 7)
unfolding lines_of node_opening times_of times_fields_of positive_of number_of words_from processes_from pools_from
    first_pool pool_line_of pool_fields_of process_of spec_of with_line fault_of pid_of
    pid_of_numbers host_of named_of
    station_event_of own_call_of own_collect_of send_of message_of delivery_of frame_of decode_pairs nodes_from
foreign = refl

-- a text that ends before its station
early : told (second ++ opening) ≡ Err (refusals.BadInput 11)
unfolding lines_of node_opening times_of times_fields_of positive_of number_of words_from processes_from pools_from
    first_pool pool_line_of pool_fields_of process_of spec_of with_line fault_of pid_of
    pid_of_numbers host_of named_of
    station_event_of own_call_of own_collect_of send_of message_of delivery_of frame_of decode_pairs nodes_from
early = refl

-- a station without events, and a last line that is not ended
silent : told (second ++ opening ++ codes "station 1") ≡ Ok ((2, 1) ∷ (1, 0) ∷ [])
unfolding lines_of node_opening times_of times_fields_of positive_of number_of words_from processes_from pools_from
    first_pool pool_line_of pool_fields_of process_of spec_of with_line fault_of pid_of
    pid_of_numbers host_of named_of
    station_event_of own_call_of own_collect_of send_of message_of delivery_of frame_of decode_pairs nodes_from
silent = refl
