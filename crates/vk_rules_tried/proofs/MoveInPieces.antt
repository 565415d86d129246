-- A move of 65,536 bytes in 64 packets, of which the fourth is lost: the bytes up to it are acknowledged, the move starts
-- anew from there, and ends with the acknowledgement of all.
use Rattle.std.proofs.Common.{◌≡◌, List, [], ◌∷◌, ◌++◌, Some, replicate, refl}
use Rattle.vk_types.specs.Types.{Message}
use Rattle.vk_base.specs.declared.call.Call.TheVariants as calls
use Rattle.vk_base.specs.declared.answer.Answer.TheVariants as answers
use Rattle.vk_base.specs.declared.answer.Ending.TheVariants as endings
use Rattle.vk_base.specs.declared.step.Step.TheVariants as steps
use Rattle.vk_base.specs.Packets as packets
use Rattle.vk_base.specs.Settings.{Settings}
use Rattle.vk_base.specs.declared.event.EventAnswer.TheVariants as given
use Rattle.vk_rules.specs.Frames.{Frame}
use Rattle.vk_rules.specs.Histories.{history_of}
use Rattle.vk_rules.specs.Observed.{no_call}
use Rattle.vk_rules.specs.Observed.{observed}
use Rattle.vk_rules_tried.proofs.Words.{Told, framed, call, collect, deliver, events_of, happenings, seen_in, p1_1, p2_1}
unfoldable use Rattle.vk_rules_tried.proofs.Words.{all_rules}

abbrev message_1 : Message
message_1 = record { 0 = (2 ∷ []) ++ replicate 28 0 ++ (1 ∷ 0 ∷ 0 ∷ []) }

abbrev settings : Settings
settings = record {
  times = record { tries = 5; interval = 4; life = 8 };
  pools = 16 ∷ 16 ∷ [];
  specs = record { pid = p1_1; size = 65536 } ∷ record { pid = p2_1; size = 65536 } ∷ [];
}

abbrev frame_2_1_1 : Frame
frame_2_1_1 = framed 2 1 0 1 1 1 (packets.Send p2_1 p1_1 1 message_1 [])

abbrev frame_1_4_1 : Frame
frame_1_4_1 = framed 1 2 0 5 4 1 (packets.MoveData p1_1 p2_1 1 1 0 65536 0 (replicate 1024 0))

abbrev frame_1_4_2 : Frame
frame_1_4_2 = framed 1 2 0 5 4 2 (packets.MoveData p1_1 p2_1 1 1 0 65536 1024 (replicate 1024 0))

abbrev frame_1_4_3 : Frame
frame_1_4_3 = framed 1 2 0 5 4 3 (packets.MoveData p1_1 p2_1 1 1 0 65536 2048 (replicate 1024 0))

abbrev frame_1_4_4 : Frame
frame_1_4_4 = framed 1 2 0 5 4 4 (packets.MoveData p1_1 p2_1 1 1 0 65536 3072 (replicate 1024 0))

abbrev frame_1_4_5 : Frame
frame_1_4_5 = framed 1 2 0 5 4 5 (packets.MoveData p1_1 p2_1 1 1 0 65536 4096 (replicate 1024 0))

abbrev frame_1_4_6 : Frame
frame_1_4_6 = framed 1 2 0 5 4 6 (packets.MoveData p1_1 p2_1 1 1 0 65536 5120 (replicate 1024 0))

abbrev frame_1_4_7 : Frame
frame_1_4_7 = framed 1 2 0 5 4 7 (packets.MoveData p1_1 p2_1 1 1 0 65536 6144 (replicate 1024 0))

abbrev frame_1_4_8 : Frame
frame_1_4_8 = framed 1 2 0 5 4 8 (packets.MoveData p1_1 p2_1 1 1 0 65536 7168 (replicate 1024 0))

abbrev frame_1_4_9 : Frame
frame_1_4_9 = framed 1 2 0 5 4 9 (packets.MoveData p1_1 p2_1 1 1 0 65536 8192 (replicate 1024 0))

abbrev frame_1_4_10 : Frame
frame_1_4_10 = framed 1 2 0 5 4 10 (packets.MoveData p1_1 p2_1 1 1 0 65536 9216 (replicate 1024 0))

abbrev frame_1_4_11 : Frame
frame_1_4_11 = framed 1 2 0 5 4 11 (packets.MoveData p1_1 p2_1 1 1 0 65536 10240 (replicate 1024 0))

abbrev frame_1_4_12 : Frame
frame_1_4_12 = framed 1 2 0 5 4 12 (packets.MoveData p1_1 p2_1 1 1 0 65536 11264 (replicate 1024 0))

abbrev frame_1_4_13 : Frame
frame_1_4_13 = framed 1 2 0 5 4 13 (packets.MoveData p1_1 p2_1 1 1 0 65536 12288 (replicate 1024 0))

abbrev frame_1_4_14 : Frame
frame_1_4_14 = framed 1 2 0 5 4 14 (packets.MoveData p1_1 p2_1 1 1 0 65536 13312 (replicate 1024 0))

abbrev frame_1_4_15 : Frame
frame_1_4_15 = framed 1 2 0 5 4 15 (packets.MoveData p1_1 p2_1 1 1 0 65536 14336 (replicate 1024 0))

abbrev frame_1_4_16 : Frame
frame_1_4_16 = framed 1 2 0 5 4 16 (packets.MoveData p1_1 p2_1 1 1 0 65536 15360 (replicate 1024 0))

abbrev frame_1_4_17 : Frame
frame_1_4_17 = framed 1 2 0 5 4 17 (packets.MoveData p1_1 p2_1 1 1 0 65536 16384 (replicate 1024 0))

abbrev frame_1_4_18 : Frame
frame_1_4_18 = framed 1 2 0 5 4 18 (packets.MoveData p1_1 p2_1 1 1 0 65536 17408 (replicate 1024 0))

abbrev frame_1_4_19 : Frame
frame_1_4_19 = framed 1 2 0 5 4 19 (packets.MoveData p1_1 p2_1 1 1 0 65536 18432 (replicate 1024 0))

abbrev frame_1_4_20 : Frame
frame_1_4_20 = framed 1 2 0 5 4 20 (packets.MoveData p1_1 p2_1 1 1 0 65536 19456 (replicate 1024 0))

abbrev frame_1_4_21 : Frame
frame_1_4_21 = framed 1 2 0 5 4 21 (packets.MoveData p1_1 p2_1 1 1 0 65536 20480 (replicate 1024 0))

abbrev frame_1_4_22 : Frame
frame_1_4_22 = framed 1 2 0 5 4 22 (packets.MoveData p1_1 p2_1 1 1 0 65536 21504 (replicate 1024 0))

abbrev frame_1_4_23 : Frame
frame_1_4_23 = framed 1 2 0 5 4 23 (packets.MoveData p1_1 p2_1 1 1 0 65536 22528 (replicate 1024 0))

abbrev frame_1_4_24 : Frame
frame_1_4_24 = framed 1 2 0 5 4 24 (packets.MoveData p1_1 p2_1 1 1 0 65536 23552 (replicate 1024 0))

abbrev frame_1_4_25 : Frame
frame_1_4_25 = framed 1 2 0 5 4 25 (packets.MoveData p1_1 p2_1 1 1 0 65536 24576 (replicate 1024 0))

abbrev frame_1_4_26 : Frame
frame_1_4_26 = framed 1 2 0 5 4 26 (packets.MoveData p1_1 p2_1 1 1 0 65536 25600 (replicate 1024 0))

abbrev frame_1_4_27 : Frame
frame_1_4_27 = framed 1 2 0 5 4 27 (packets.MoveData p1_1 p2_1 1 1 0 65536 26624 (replicate 1024 0))

abbrev frame_1_4_28 : Frame
frame_1_4_28 = framed 1 2 0 5 4 28 (packets.MoveData p1_1 p2_1 1 1 0 65536 27648 (replicate 1024 0))

abbrev frame_1_4_29 : Frame
frame_1_4_29 = framed 1 2 0 5 4 29 (packets.MoveData p1_1 p2_1 1 1 0 65536 28672 (replicate 1024 0))

abbrev frame_1_4_30 : Frame
frame_1_4_30 = framed 1 2 0 5 4 30 (packets.MoveData p1_1 p2_1 1 1 0 65536 29696 (replicate 1024 0))

abbrev frame_1_4_31 : Frame
frame_1_4_31 = framed 1 2 0 5 4 31 (packets.MoveData p1_1 p2_1 1 1 0 65536 30720 (replicate 1024 0))

abbrev frame_1_4_32 : Frame
frame_1_4_32 = framed 1 2 0 5 4 32 (packets.MoveData p1_1 p2_1 1 1 0 65536 31744 (replicate 1024 0))

abbrev frame_1_4_33 : Frame
frame_1_4_33 = framed 1 2 0 5 4 33 (packets.MoveData p1_1 p2_1 1 1 0 65536 32768 (replicate 1024 0))

abbrev frame_1_4_34 : Frame
frame_1_4_34 = framed 1 2 0 5 4 34 (packets.MoveData p1_1 p2_1 1 1 0 65536 33792 (replicate 1024 0))

abbrev frame_1_4_35 : Frame
frame_1_4_35 = framed 1 2 0 5 4 35 (packets.MoveData p1_1 p2_1 1 1 0 65536 34816 (replicate 1024 0))

abbrev frame_1_4_36 : Frame
frame_1_4_36 = framed 1 2 0 5 4 36 (packets.MoveData p1_1 p2_1 1 1 0 65536 35840 (replicate 1024 0))

abbrev frame_1_4_37 : Frame
frame_1_4_37 = framed 1 2 0 5 4 37 (packets.MoveData p1_1 p2_1 1 1 0 65536 36864 (replicate 1024 0))

abbrev frame_1_4_38 : Frame
frame_1_4_38 = framed 1 2 0 5 4 38 (packets.MoveData p1_1 p2_1 1 1 0 65536 37888 (replicate 1024 0))

abbrev frame_1_4_39 : Frame
frame_1_4_39 = framed 1 2 0 5 4 39 (packets.MoveData p1_1 p2_1 1 1 0 65536 38912 (replicate 1024 0))

abbrev frame_1_4_40 : Frame
frame_1_4_40 = framed 1 2 0 5 4 40 (packets.MoveData p1_1 p2_1 1 1 0 65536 39936 (replicate 1024 0))

abbrev frame_1_4_41 : Frame
frame_1_4_41 = framed 1 2 0 5 4 41 (packets.MoveData p1_1 p2_1 1 1 0 65536 40960 (replicate 1024 0))

abbrev frame_1_4_42 : Frame
frame_1_4_42 = framed 1 2 0 5 4 42 (packets.MoveData p1_1 p2_1 1 1 0 65536 41984 (replicate 1024 0))

abbrev frame_1_4_43 : Frame
frame_1_4_43 = framed 1 2 0 5 4 43 (packets.MoveData p1_1 p2_1 1 1 0 65536 43008 (replicate 1024 0))

abbrev frame_1_4_44 : Frame
frame_1_4_44 = framed 1 2 0 5 4 44 (packets.MoveData p1_1 p2_1 1 1 0 65536 44032 (replicate 1024 0))

abbrev frame_1_4_45 : Frame
frame_1_4_45 = framed 1 2 0 5 4 45 (packets.MoveData p1_1 p2_1 1 1 0 65536 45056 (replicate 1024 0))

abbrev frame_1_4_46 : Frame
frame_1_4_46 = framed 1 2 0 5 4 46 (packets.MoveData p1_1 p2_1 1 1 0 65536 46080 (replicate 1024 0))

abbrev frame_1_4_47 : Frame
frame_1_4_47 = framed 1 2 0 5 4 47 (packets.MoveData p1_1 p2_1 1 1 0 65536 47104 (replicate 1024 0))

abbrev frame_1_4_48 : Frame
frame_1_4_48 = framed 1 2 0 5 4 48 (packets.MoveData p1_1 p2_1 1 1 0 65536 48128 (replicate 1024 0))

abbrev frame_1_4_49 : Frame
frame_1_4_49 = framed 1 2 0 5 4 49 (packets.MoveData p1_1 p2_1 1 1 0 65536 49152 (replicate 1024 0))

abbrev frame_1_4_50 : Frame
frame_1_4_50 = framed 1 2 0 5 4 50 (packets.MoveData p1_1 p2_1 1 1 0 65536 50176 (replicate 1024 0))

abbrev frame_1_4_51 : Frame
frame_1_4_51 = framed 1 2 0 5 4 51 (packets.MoveData p1_1 p2_1 1 1 0 65536 51200 (replicate 1024 0))

abbrev frame_1_4_52 : Frame
frame_1_4_52 = framed 1 2 0 5 4 52 (packets.MoveData p1_1 p2_1 1 1 0 65536 52224 (replicate 1024 0))

abbrev frame_1_4_53 : Frame
frame_1_4_53 = framed 1 2 0 5 4 53 (packets.MoveData p1_1 p2_1 1 1 0 65536 53248 (replicate 1024 0))

abbrev frame_1_4_54 : Frame
frame_1_4_54 = framed 1 2 0 5 4 54 (packets.MoveData p1_1 p2_1 1 1 0 65536 54272 (replicate 1024 0))

abbrev frame_1_4_55 : Frame
frame_1_4_55 = framed 1 2 0 5 4 55 (packets.MoveData p1_1 p2_1 1 1 0 65536 55296 (replicate 1024 0))

abbrev frame_1_4_56 : Frame
frame_1_4_56 = framed 1 2 0 5 4 56 (packets.MoveData p1_1 p2_1 1 1 0 65536 56320 (replicate 1024 0))

abbrev frame_1_4_57 : Frame
frame_1_4_57 = framed 1 2 0 5 4 57 (packets.MoveData p1_1 p2_1 1 1 0 65536 57344 (replicate 1024 0))

abbrev frame_1_4_58 : Frame
frame_1_4_58 = framed 1 2 0 5 4 58 (packets.MoveData p1_1 p2_1 1 1 0 65536 58368 (replicate 1024 0))

abbrev frame_1_4_59 : Frame
frame_1_4_59 = framed 1 2 0 5 4 59 (packets.MoveData p1_1 p2_1 1 1 0 65536 59392 (replicate 1024 0))

abbrev frame_1_4_60 : Frame
frame_1_4_60 = framed 1 2 0 5 4 60 (packets.MoveData p1_1 p2_1 1 1 0 65536 60416 (replicate 1024 0))

abbrev frame_1_4_61 : Frame
frame_1_4_61 = framed 1 2 0 5 4 61 (packets.MoveData p1_1 p2_1 1 1 0 65536 61440 (replicate 1024 0))

abbrev frame_1_4_62 : Frame
frame_1_4_62 = framed 1 2 0 5 4 62 (packets.MoveData p1_1 p2_1 1 1 0 65536 62464 (replicate 1024 0))

abbrev frame_1_4_63 : Frame
frame_1_4_63 = framed 1 2 0 5 4 63 (packets.MoveData p1_1 p2_1 1 1 0 65536 63488 (replicate 1024 0))

abbrev frame_1_4_64 : Frame
frame_1_4_64 = framed 1 2 0 5 4 64 (packets.MoveData p1_1 p2_1 1 1 0 65536 64512 (replicate 1024 0))

abbrev frame_2_64_1 : Frame
frame_2_64_1 = framed 2 1 0 68 64 1 (packets.MoveAck p2_1 p1_1 1 1 3072)

abbrev frame_1_5_1 : Frame
frame_1_5_1 = framed 1 2 0 69 5 1 (packets.MoveData p1_1 p2_1 1 1 0 65536 3072 (replicate 1024 0))

abbrev frame_1_5_2 : Frame
frame_1_5_2 = framed 1 2 0 69 5 2 (packets.MoveData p1_1 p2_1 1 1 0 65536 4096 (replicate 1024 0))

abbrev frame_1_5_3 : Frame
frame_1_5_3 = framed 1 2 0 69 5 3 (packets.MoveData p1_1 p2_1 1 1 0 65536 5120 (replicate 1024 0))

abbrev frame_1_5_4 : Frame
frame_1_5_4 = framed 1 2 0 69 5 4 (packets.MoveData p1_1 p2_1 1 1 0 65536 6144 (replicate 1024 0))

abbrev frame_1_5_5 : Frame
frame_1_5_5 = framed 1 2 0 69 5 5 (packets.MoveData p1_1 p2_1 1 1 0 65536 7168 (replicate 1024 0))

abbrev frame_1_5_6 : Frame
frame_1_5_6 = framed 1 2 0 69 5 6 (packets.MoveData p1_1 p2_1 1 1 0 65536 8192 (replicate 1024 0))

abbrev frame_1_5_7 : Frame
frame_1_5_7 = framed 1 2 0 69 5 7 (packets.MoveData p1_1 p2_1 1 1 0 65536 9216 (replicate 1024 0))

abbrev frame_1_5_8 : Frame
frame_1_5_8 = framed 1 2 0 69 5 8 (packets.MoveData p1_1 p2_1 1 1 0 65536 10240 (replicate 1024 0))

abbrev frame_1_5_9 : Frame
frame_1_5_9 = framed 1 2 0 69 5 9 (packets.MoveData p1_1 p2_1 1 1 0 65536 11264 (replicate 1024 0))

abbrev frame_1_5_10 : Frame
frame_1_5_10 = framed 1 2 0 69 5 10 (packets.MoveData p1_1 p2_1 1 1 0 65536 12288 (replicate 1024 0))

abbrev frame_1_5_11 : Frame
frame_1_5_11 = framed 1 2 0 69 5 11 (packets.MoveData p1_1 p2_1 1 1 0 65536 13312 (replicate 1024 0))

abbrev frame_1_5_12 : Frame
frame_1_5_12 = framed 1 2 0 69 5 12 (packets.MoveData p1_1 p2_1 1 1 0 65536 14336 (replicate 1024 0))

abbrev frame_1_5_13 : Frame
frame_1_5_13 = framed 1 2 0 69 5 13 (packets.MoveData p1_1 p2_1 1 1 0 65536 15360 (replicate 1024 0))

abbrev frame_1_5_14 : Frame
frame_1_5_14 = framed 1 2 0 69 5 14 (packets.MoveData p1_1 p2_1 1 1 0 65536 16384 (replicate 1024 0))

abbrev frame_1_5_15 : Frame
frame_1_5_15 = framed 1 2 0 69 5 15 (packets.MoveData p1_1 p2_1 1 1 0 65536 17408 (replicate 1024 0))

abbrev frame_1_5_16 : Frame
frame_1_5_16 = framed 1 2 0 69 5 16 (packets.MoveData p1_1 p2_1 1 1 0 65536 18432 (replicate 1024 0))

abbrev frame_1_5_17 : Frame
frame_1_5_17 = framed 1 2 0 69 5 17 (packets.MoveData p1_1 p2_1 1 1 0 65536 19456 (replicate 1024 0))

abbrev frame_1_5_18 : Frame
frame_1_5_18 = framed 1 2 0 69 5 18 (packets.MoveData p1_1 p2_1 1 1 0 65536 20480 (replicate 1024 0))

abbrev frame_1_5_19 : Frame
frame_1_5_19 = framed 1 2 0 69 5 19 (packets.MoveData p1_1 p2_1 1 1 0 65536 21504 (replicate 1024 0))

abbrev frame_1_5_20 : Frame
frame_1_5_20 = framed 1 2 0 69 5 20 (packets.MoveData p1_1 p2_1 1 1 0 65536 22528 (replicate 1024 0))

abbrev frame_1_5_21 : Frame
frame_1_5_21 = framed 1 2 0 69 5 21 (packets.MoveData p1_1 p2_1 1 1 0 65536 23552 (replicate 1024 0))

abbrev frame_1_5_22 : Frame
frame_1_5_22 = framed 1 2 0 69 5 22 (packets.MoveData p1_1 p2_1 1 1 0 65536 24576 (replicate 1024 0))

abbrev frame_1_5_23 : Frame
frame_1_5_23 = framed 1 2 0 69 5 23 (packets.MoveData p1_1 p2_1 1 1 0 65536 25600 (replicate 1024 0))

abbrev frame_1_5_24 : Frame
frame_1_5_24 = framed 1 2 0 69 5 24 (packets.MoveData p1_1 p2_1 1 1 0 65536 26624 (replicate 1024 0))

abbrev frame_1_5_25 : Frame
frame_1_5_25 = framed 1 2 0 69 5 25 (packets.MoveData p1_1 p2_1 1 1 0 65536 27648 (replicate 1024 0))

abbrev frame_1_5_26 : Frame
frame_1_5_26 = framed 1 2 0 69 5 26 (packets.MoveData p1_1 p2_1 1 1 0 65536 28672 (replicate 1024 0))

abbrev frame_1_5_27 : Frame
frame_1_5_27 = framed 1 2 0 69 5 27 (packets.MoveData p1_1 p2_1 1 1 0 65536 29696 (replicate 1024 0))

abbrev frame_1_5_28 : Frame
frame_1_5_28 = framed 1 2 0 69 5 28 (packets.MoveData p1_1 p2_1 1 1 0 65536 30720 (replicate 1024 0))

abbrev frame_1_5_29 : Frame
frame_1_5_29 = framed 1 2 0 69 5 29 (packets.MoveData p1_1 p2_1 1 1 0 65536 31744 (replicate 1024 0))

abbrev frame_1_5_30 : Frame
frame_1_5_30 = framed 1 2 0 69 5 30 (packets.MoveData p1_1 p2_1 1 1 0 65536 32768 (replicate 1024 0))

abbrev frame_1_5_31 : Frame
frame_1_5_31 = framed 1 2 0 69 5 31 (packets.MoveData p1_1 p2_1 1 1 0 65536 33792 (replicate 1024 0))

abbrev frame_1_5_32 : Frame
frame_1_5_32 = framed 1 2 0 69 5 32 (packets.MoveData p1_1 p2_1 1 1 0 65536 34816 (replicate 1024 0))

abbrev frame_1_5_33 : Frame
frame_1_5_33 = framed 1 2 0 69 5 33 (packets.MoveData p1_1 p2_1 1 1 0 65536 35840 (replicate 1024 0))

abbrev frame_1_5_34 : Frame
frame_1_5_34 = framed 1 2 0 69 5 34 (packets.MoveData p1_1 p2_1 1 1 0 65536 36864 (replicate 1024 0))

abbrev frame_1_5_35 : Frame
frame_1_5_35 = framed 1 2 0 69 5 35 (packets.MoveData p1_1 p2_1 1 1 0 65536 37888 (replicate 1024 0))

abbrev frame_1_5_36 : Frame
frame_1_5_36 = framed 1 2 0 69 5 36 (packets.MoveData p1_1 p2_1 1 1 0 65536 38912 (replicate 1024 0))

abbrev frame_1_5_37 : Frame
frame_1_5_37 = framed 1 2 0 69 5 37 (packets.MoveData p1_1 p2_1 1 1 0 65536 39936 (replicate 1024 0))

abbrev frame_1_5_38 : Frame
frame_1_5_38 = framed 1 2 0 69 5 38 (packets.MoveData p1_1 p2_1 1 1 0 65536 40960 (replicate 1024 0))

abbrev frame_1_5_39 : Frame
frame_1_5_39 = framed 1 2 0 69 5 39 (packets.MoveData p1_1 p2_1 1 1 0 65536 41984 (replicate 1024 0))

abbrev frame_1_5_40 : Frame
frame_1_5_40 = framed 1 2 0 69 5 40 (packets.MoveData p1_1 p2_1 1 1 0 65536 43008 (replicate 1024 0))

abbrev frame_1_5_41 : Frame
frame_1_5_41 = framed 1 2 0 69 5 41 (packets.MoveData p1_1 p2_1 1 1 0 65536 44032 (replicate 1024 0))

abbrev frame_1_5_42 : Frame
frame_1_5_42 = framed 1 2 0 69 5 42 (packets.MoveData p1_1 p2_1 1 1 0 65536 45056 (replicate 1024 0))

abbrev frame_1_5_43 : Frame
frame_1_5_43 = framed 1 2 0 69 5 43 (packets.MoveData p1_1 p2_1 1 1 0 65536 46080 (replicate 1024 0))

abbrev frame_1_5_44 : Frame
frame_1_5_44 = framed 1 2 0 69 5 44 (packets.MoveData p1_1 p2_1 1 1 0 65536 47104 (replicate 1024 0))

abbrev frame_1_5_45 : Frame
frame_1_5_45 = framed 1 2 0 69 5 45 (packets.MoveData p1_1 p2_1 1 1 0 65536 48128 (replicate 1024 0))

abbrev frame_1_5_46 : Frame
frame_1_5_46 = framed 1 2 0 69 5 46 (packets.MoveData p1_1 p2_1 1 1 0 65536 49152 (replicate 1024 0))

abbrev frame_1_5_47 : Frame
frame_1_5_47 = framed 1 2 0 69 5 47 (packets.MoveData p1_1 p2_1 1 1 0 65536 50176 (replicate 1024 0))

abbrev frame_1_5_48 : Frame
frame_1_5_48 = framed 1 2 0 69 5 48 (packets.MoveData p1_1 p2_1 1 1 0 65536 51200 (replicate 1024 0))

abbrev frame_1_5_49 : Frame
frame_1_5_49 = framed 1 2 0 69 5 49 (packets.MoveData p1_1 p2_1 1 1 0 65536 52224 (replicate 1024 0))

abbrev frame_1_5_50 : Frame
frame_1_5_50 = framed 1 2 0 69 5 50 (packets.MoveData p1_1 p2_1 1 1 0 65536 53248 (replicate 1024 0))

abbrev frame_1_5_51 : Frame
frame_1_5_51 = framed 1 2 0 69 5 51 (packets.MoveData p1_1 p2_1 1 1 0 65536 54272 (replicate 1024 0))

abbrev frame_1_5_52 : Frame
frame_1_5_52 = framed 1 2 0 69 5 52 (packets.MoveData p1_1 p2_1 1 1 0 65536 55296 (replicate 1024 0))

abbrev frame_1_5_53 : Frame
frame_1_5_53 = framed 1 2 0 69 5 53 (packets.MoveData p1_1 p2_1 1 1 0 65536 56320 (replicate 1024 0))

abbrev frame_1_5_54 : Frame
frame_1_5_54 = framed 1 2 0 69 5 54 (packets.MoveData p1_1 p2_1 1 1 0 65536 57344 (replicate 1024 0))

abbrev frame_1_5_55 : Frame
frame_1_5_55 = framed 1 2 0 69 5 55 (packets.MoveData p1_1 p2_1 1 1 0 65536 58368 (replicate 1024 0))

abbrev frame_1_5_56 : Frame
frame_1_5_56 = framed 1 2 0 69 5 56 (packets.MoveData p1_1 p2_1 1 1 0 65536 59392 (replicate 1024 0))

abbrev frame_1_5_57 : Frame
frame_1_5_57 = framed 1 2 0 69 5 57 (packets.MoveData p1_1 p2_1 1 1 0 65536 60416 (replicate 1024 0))

abbrev frame_1_5_58 : Frame
frame_1_5_58 = framed 1 2 0 69 5 58 (packets.MoveData p1_1 p2_1 1 1 0 65536 61440 (replicate 1024 0))

abbrev frame_1_5_59 : Frame
frame_1_5_59 = framed 1 2 0 69 5 59 (packets.MoveData p1_1 p2_1 1 1 0 65536 62464 (replicate 1024 0))

abbrev frame_1_5_60 : Frame
frame_1_5_60 = framed 1 2 0 69 5 60 (packets.MoveData p1_1 p2_1 1 1 0 65536 63488 (replicate 1024 0))

abbrev frame_1_5_61 : Frame
frame_1_5_61 = framed 1 2 0 69 5 61 (packets.MoveData p1_1 p2_1 1 1 0 65536 64512 (replicate 1024 0))

abbrev frame_2_125_1 : Frame
frame_2_125_1 = framed 2 1 0 130 125 1 (packets.MoveAck p2_1 p1_1 1 1 65536)

abbrev told_1 : List Told
told_1 =
    call 1 p2_1 (calls.Send p1_1 message_1) given.Begun 0 1 (frame_2_1_1 ∷ []) []
    ∷ deliver 1 1 frame_2_1_1 given.Taken 0 2 [] (steps.Arrive p2_1 1 ∷ [])
    ∷ call 2 p1_1 calls.Receive given.Begun 0 3 [] (steps.Take p1_1 ∷ [])
    ∷ collect 3 p1_1 (given.Answered (answers.Received p2_1 message_1)) 0 4 [] (steps.Collect p1_1 ∷ [])
    ∷ call 4 p1_1 (calls.MoveTo p2_1 0 0 65536) given.Begun 0 5
    (frame_1_4_1 ∷ frame_1_4_2 ∷ frame_1_4_3 ∷ frame_1_4_4 ∷ frame_1_4_5 ∷ frame_1_4_6 ∷ frame_1_4_7 ∷ frame_1_4_8 ∷ frame_1_4_9
    ∷ frame_1_4_10 ∷ frame_1_4_11 ∷ frame_1_4_12 ∷ frame_1_4_13 ∷ frame_1_4_14 ∷ frame_1_4_15 ∷ frame_1_4_16 ∷ frame_1_4_17
    ∷ frame_1_4_18 ∷ frame_1_4_19 ∷ frame_1_4_20 ∷ frame_1_4_21 ∷ frame_1_4_22 ∷ frame_1_4_23 ∷ frame_1_4_24 ∷ frame_1_4_25
    ∷ frame_1_4_26 ∷ frame_1_4_27 ∷ frame_1_4_28 ∷ frame_1_4_29 ∷ frame_1_4_30 ∷ frame_1_4_31 ∷ frame_1_4_32 ∷ frame_1_4_33
    ∷ frame_1_4_34 ∷ frame_1_4_35 ∷ frame_1_4_36 ∷ frame_1_4_37 ∷ frame_1_4_38 ∷ frame_1_4_39 ∷ frame_1_4_40 ∷ frame_1_4_41
    ∷ frame_1_4_42 ∷ frame_1_4_43 ∷ frame_1_4_44 ∷ frame_1_4_45 ∷ frame_1_4_46 ∷ frame_1_4_47 ∷ frame_1_4_48 ∷ frame_1_4_49
    ∷ frame_1_4_50 ∷ frame_1_4_51 ∷ frame_1_4_52 ∷ frame_1_4_53 ∷ frame_1_4_54 ∷ frame_1_4_55 ∷ frame_1_4_56 ∷ frame_1_4_57
    ∷ frame_1_4_58 ∷ frame_1_4_59 ∷ frame_1_4_60 ∷ frame_1_4_61 ∷ frame_1_4_62 ∷ frame_1_4_63 ∷ frame_1_4_64 ∷ []) []
    ∷ deliver 2 2 frame_1_4_1 given.Taken 0 6 [] (steps.OpenMove p2_1 1 1 ∷ steps.Copy p2_1 1 1 0 1024 ∷ [])
    ∷ deliver 2 3 frame_1_4_2 given.Taken 0 7 [] (steps.Copy p2_1 1 1 1024 1024 ∷ [])
    ∷ deliver 2 4 frame_1_4_3 given.Taken 0 8 [] (steps.Copy p2_1 1 1 2048 1024 ∷ [])
    ∷ deliver 2 5 frame_1_4_5 given.Taken 0 9 [] []
    ∷ deliver 2 6 frame_1_4_6 given.Taken 0 10 [] []
    ∷ deliver 2 7 frame_1_4_7 given.Taken 0 11 [] []
    ∷ deliver 2 8 frame_1_4_8 given.Taken 0 12 [] []
    ∷ deliver 2 9 frame_1_4_9 given.Taken 0 13 [] []
    ∷ deliver 2 10 frame_1_4_10 given.Taken 0 14 [] []
    ∷ deliver 2 11 frame_1_4_11 given.Taken 0 15 [] []
    ∷ deliver 2 12 frame_1_4_12 given.Taken 0 16 [] []
    ∷ deliver 2 13 frame_1_4_13 given.Taken 0 17 [] []
    ∷ deliver 2 14 frame_1_4_14 given.Taken 0 18 [] []
    ∷ deliver 2 15 frame_1_4_15 given.Taken 0 19 [] []
    ∷ deliver 2 16 frame_1_4_16 given.Taken 0 20 [] []
    ∷ deliver 2 17 frame_1_4_17 given.Taken 0 21 [] []
    ∷ deliver 2 18 frame_1_4_18 given.Taken 0 22 [] []
    ∷ deliver 2 19 frame_1_4_19 given.Taken 0 23 [] []
    ∷ deliver 2 20 frame_1_4_20 given.Taken 0 24 [] []
    ∷ []

abbrev told_2 : List Told
told_2 =
    deliver 2 21 frame_1_4_21 given.Taken 0 25 [] []
    ∷ deliver 2 22 frame_1_4_22 given.Taken 0 26 [] []
    ∷ deliver 2 23 frame_1_4_23 given.Taken 0 27 [] []
    ∷ deliver 2 24 frame_1_4_24 given.Taken 0 28 [] []
    ∷ deliver 2 25 frame_1_4_25 given.Taken 0 29 [] []
    ∷ deliver 2 26 frame_1_4_26 given.Taken 0 30 [] []
    ∷ deliver 2 27 frame_1_4_27 given.Taken 0 31 [] []
    ∷ deliver 2 28 frame_1_4_28 given.Taken 0 32 [] []
    ∷ deliver 2 29 frame_1_4_29 given.Taken 0 33 [] []
    ∷ deliver 2 30 frame_1_4_30 given.Taken 0 34 [] []
    ∷ deliver 2 31 frame_1_4_31 given.Taken 0 35 [] []
    ∷ deliver 2 32 frame_1_4_32 given.Taken 0 36 [] []
    ∷ deliver 2 33 frame_1_4_33 given.Taken 0 37 [] []
    ∷ deliver 2 34 frame_1_4_34 given.Taken 0 38 [] []
    ∷ deliver 2 35 frame_1_4_35 given.Taken 0 39 [] []
    ∷ deliver 2 36 frame_1_4_36 given.Taken 0 40 [] []
    ∷ deliver 2 37 frame_1_4_37 given.Taken 0 41 [] []
    ∷ deliver 2 38 frame_1_4_38 given.Taken 0 42 [] []
    ∷ deliver 2 39 frame_1_4_39 given.Taken 0 43 [] []
    ∷ deliver 2 40 frame_1_4_40 given.Taken 0 44 [] []
    ∷ deliver 2 41 frame_1_4_41 given.Taken 0 45 [] []
    ∷ deliver 2 42 frame_1_4_42 given.Taken 0 46 [] []
    ∷ deliver 2 43 frame_1_4_43 given.Taken 0 47 [] []
    ∷ deliver 2 44 frame_1_4_44 given.Taken 0 48 [] []
    ∷ []

abbrev told_3 : List Told
told_3 =
    deliver 2 45 frame_1_4_45 given.Taken 0 49 [] []
    ∷ deliver 2 46 frame_1_4_46 given.Taken 0 50 [] []
    ∷ deliver 2 47 frame_1_4_47 given.Taken 0 51 [] []
    ∷ deliver 2 48 frame_1_4_48 given.Taken 0 52 [] []
    ∷ deliver 2 49 frame_1_4_49 given.Taken 0 53 [] []
    ∷ deliver 2 50 frame_1_4_50 given.Taken 0 54 [] []
    ∷ deliver 2 51 frame_1_4_51 given.Taken 0 55 [] []
    ∷ deliver 2 52 frame_1_4_52 given.Taken 0 56 [] []
    ∷ deliver 2 53 frame_1_4_53 given.Taken 0 57 [] []
    ∷ deliver 2 54 frame_1_4_54 given.Taken 0 58 [] []
    ∷ deliver 2 55 frame_1_4_55 given.Taken 0 59 [] []
    ∷ deliver 2 56 frame_1_4_56 given.Taken 0 60 [] []
    ∷ deliver 2 57 frame_1_4_57 given.Taken 0 61 [] []
    ∷ deliver 2 58 frame_1_4_58 given.Taken 0 62 [] []
    ∷ deliver 2 59 frame_1_4_59 given.Taken 0 63 [] []
    ∷ deliver 2 60 frame_1_4_60 given.Taken 0 64 [] []
    ∷ deliver 2 61 frame_1_4_61 given.Taken 0 65 [] []
    ∷ deliver 2 62 frame_1_4_62 given.Taken 0 66 [] []
    ∷ deliver 2 63 frame_1_4_63 given.Taken 0 67 [] []
    ∷ deliver 2 64 frame_1_4_64 given.Taken 0 68 (frame_2_64_1 ∷ []) []
    ∷ deliver 1 5 frame_2_64_1 given.Taken 0 69
    (frame_1_5_1 ∷ frame_1_5_2 ∷ frame_1_5_3 ∷ frame_1_5_4 ∷ frame_1_5_5 ∷ frame_1_5_6 ∷ frame_1_5_7 ∷ frame_1_5_8 ∷ frame_1_5_9
    ∷ frame_1_5_10 ∷ frame_1_5_11 ∷ frame_1_5_12 ∷ frame_1_5_13 ∷ frame_1_5_14 ∷ frame_1_5_15 ∷ frame_1_5_16 ∷ frame_1_5_17
    ∷ frame_1_5_18 ∷ frame_1_5_19 ∷ frame_1_5_20 ∷ frame_1_5_21 ∷ frame_1_5_22 ∷ frame_1_5_23 ∷ frame_1_5_24 ∷ frame_1_5_25
    ∷ frame_1_5_26 ∷ frame_1_5_27 ∷ frame_1_5_28 ∷ frame_1_5_29 ∷ frame_1_5_30 ∷ frame_1_5_31 ∷ frame_1_5_32 ∷ frame_1_5_33
    ∷ frame_1_5_34 ∷ frame_1_5_35 ∷ frame_1_5_36 ∷ frame_1_5_37 ∷ frame_1_5_38 ∷ frame_1_5_39 ∷ frame_1_5_40 ∷ frame_1_5_41
    ∷ frame_1_5_42 ∷ frame_1_5_43 ∷ frame_1_5_44 ∷ frame_1_5_45 ∷ frame_1_5_46 ∷ frame_1_5_47 ∷ frame_1_5_48 ∷ frame_1_5_49
    ∷ frame_1_5_50 ∷ frame_1_5_51 ∷ frame_1_5_52 ∷ frame_1_5_53 ∷ frame_1_5_54 ∷ frame_1_5_55 ∷ frame_1_5_56 ∷ frame_1_5_57
    ∷ frame_1_5_58 ∷ frame_1_5_59 ∷ frame_1_5_60 ∷ frame_1_5_61 ∷ []) []
    ∷ deliver 2 65 frame_1_5_1 given.Taken 0 70 [] (steps.Copy p2_1 1 1 3072 1024 ∷ [])
    ∷ deliver 2 66 frame_1_5_2 given.Taken 0 71 [] (steps.Copy p2_1 1 1 4096 1024 ∷ [])
    ∷ deliver 2 67 frame_1_5_3 given.Taken 0 72 [] (steps.Copy p2_1 1 1 5120 1024 ∷ [])
    ∷ []

abbrev told_4 : List Told
told_4 =
    deliver 2 68 frame_1_5_4 given.Taken 0 73 [] (steps.Copy p2_1 1 1 6144 1024 ∷ [])
    ∷ deliver 2 69 frame_1_5_5 given.Taken 0 74 [] (steps.Copy p2_1 1 1 7168 1024 ∷ [])
    ∷ deliver 2 70 frame_1_5_6 given.Taken 0 75 [] (steps.Copy p2_1 1 1 8192 1024 ∷ [])
    ∷ deliver 2 71 frame_1_5_7 given.Taken 0 76 [] (steps.Copy p2_1 1 1 9216 1024 ∷ [])
    ∷ deliver 2 72 frame_1_5_8 given.Taken 0 77 [] (steps.Copy p2_1 1 1 10240 1024 ∷ [])
    ∷ deliver 2 73 frame_1_5_9 given.Taken 0 78 [] (steps.Copy p2_1 1 1 11264 1024 ∷ [])
    ∷ deliver 2 74 frame_1_5_10 given.Taken 0 79 [] (steps.Copy p2_1 1 1 12288 1024 ∷ [])
    ∷ deliver 2 75 frame_1_5_11 given.Taken 0 80 [] (steps.Copy p2_1 1 1 13312 1024 ∷ [])
    ∷ deliver 2 76 frame_1_5_12 given.Taken 0 81 [] (steps.Copy p2_1 1 1 14336 1024 ∷ [])
    ∷ deliver 2 77 frame_1_5_13 given.Taken 0 82 [] (steps.Copy p2_1 1 1 15360 1024 ∷ [])
    ∷ deliver 2 78 frame_1_5_14 given.Taken 0 83 [] (steps.Copy p2_1 1 1 16384 1024 ∷ [])
    ∷ deliver 2 79 frame_1_5_15 given.Taken 0 84 [] (steps.Copy p2_1 1 1 17408 1024 ∷ [])
    ∷ deliver 2 80 frame_1_5_16 given.Taken 0 85 [] (steps.Copy p2_1 1 1 18432 1024 ∷ [])
    ∷ deliver 2 81 frame_1_5_17 given.Taken 0 86 [] (steps.Copy p2_1 1 1 19456 1024 ∷ [])
    ∷ deliver 2 82 frame_1_5_18 given.Taken 0 87 [] (steps.Copy p2_1 1 1 20480 1024 ∷ [])
    ∷ deliver 2 83 frame_1_5_19 given.Taken 0 88 [] (steps.Copy p2_1 1 1 21504 1024 ∷ [])
    ∷ deliver 2 84 frame_1_5_20 given.Taken 0 89 [] (steps.Copy p2_1 1 1 22528 1024 ∷ [])
    ∷ deliver 2 85 frame_1_5_21 given.Taken 0 90 [] (steps.Copy p2_1 1 1 23552 1024 ∷ [])
    ∷ deliver 2 86 frame_1_5_22 given.Taken 0 91 [] (steps.Copy p2_1 1 1 24576 1024 ∷ [])
    ∷ deliver 2 87 frame_1_5_23 given.Taken 0 92 [] (steps.Copy p2_1 1 1 25600 1024 ∷ [])
    ∷ deliver 2 88 frame_1_5_24 given.Taken 0 93 [] (steps.Copy p2_1 1 1 26624 1024 ∷ [])
    ∷ deliver 2 89 frame_1_5_25 given.Taken 0 94 [] (steps.Copy p2_1 1 1 27648 1024 ∷ [])
    ∷ deliver 2 90 frame_1_5_26 given.Taken 0 95 [] (steps.Copy p2_1 1 1 28672 1024 ∷ [])
    ∷ deliver 2 91 frame_1_5_27 given.Taken 0 96 [] (steps.Copy p2_1 1 1 29696 1024 ∷ [])
    ∷ []

abbrev told_5 : List Told
told_5 =
    deliver 2 92 frame_1_5_28 given.Taken 0 97 [] (steps.Copy p2_1 1 1 30720 1024 ∷ [])
    ∷ deliver 2 93 frame_1_5_29 given.Taken 0 98 [] (steps.Copy p2_1 1 1 31744 1024 ∷ [])
    ∷ deliver 2 94 frame_1_5_30 given.Taken 0 99 [] (steps.Copy p2_1 1 1 32768 1024 ∷ [])
    ∷ deliver 2 95 frame_1_5_31 given.Taken 0 100 [] (steps.Copy p2_1 1 1 33792 1024 ∷ [])
    ∷ deliver 2 96 frame_1_5_32 given.Taken 0 101 [] (steps.Copy p2_1 1 1 34816 1024 ∷ [])
    ∷ deliver 2 97 frame_1_5_33 given.Taken 0 102 [] (steps.Copy p2_1 1 1 35840 1024 ∷ [])
    ∷ deliver 2 98 frame_1_5_34 given.Taken 0 103 [] (steps.Copy p2_1 1 1 36864 1024 ∷ [])
    ∷ deliver 2 99 frame_1_5_35 given.Taken 0 104 [] (steps.Copy p2_1 1 1 37888 1024 ∷ [])
    ∷ deliver 2 100 frame_1_5_36 given.Taken 0 105 [] (steps.Copy p2_1 1 1 38912 1024 ∷ [])
    ∷ deliver 2 101 frame_1_5_37 given.Taken 0 106 [] (steps.Copy p2_1 1 1 39936 1024 ∷ [])
    ∷ deliver 2 102 frame_1_5_38 given.Taken 0 107 [] (steps.Copy p2_1 1 1 40960 1024 ∷ [])
    ∷ deliver 2 103 frame_1_5_39 given.Taken 0 108 [] (steps.Copy p2_1 1 1 41984 1024 ∷ [])
    ∷ deliver 2 104 frame_1_5_40 given.Taken 0 109 [] (steps.Copy p2_1 1 1 43008 1024 ∷ [])
    ∷ deliver 2 105 frame_1_5_41 given.Taken 0 110 [] (steps.Copy p2_1 1 1 44032 1024 ∷ [])
    ∷ deliver 2 106 frame_1_5_42 given.Taken 0 111 [] (steps.Copy p2_1 1 1 45056 1024 ∷ [])
    ∷ deliver 2 107 frame_1_5_43 given.Taken 0 112 [] (steps.Copy p2_1 1 1 46080 1024 ∷ [])
    ∷ deliver 2 108 frame_1_5_44 given.Taken 0 113 [] (steps.Copy p2_1 1 1 47104 1024 ∷ [])
    ∷ deliver 2 109 frame_1_5_45 given.Taken 0 114 [] (steps.Copy p2_1 1 1 48128 1024 ∷ [])
    ∷ deliver 2 110 frame_1_5_46 given.Taken 0 115 [] (steps.Copy p2_1 1 1 49152 1024 ∷ [])
    ∷ deliver 2 111 frame_1_5_47 given.Taken 0 116 [] (steps.Copy p2_1 1 1 50176 1024 ∷ [])
    ∷ deliver 2 112 frame_1_5_48 given.Taken 0 117 [] (steps.Copy p2_1 1 1 51200 1024 ∷ [])
    ∷ deliver 2 113 frame_1_5_49 given.Taken 0 118 [] (steps.Copy p2_1 1 1 52224 1024 ∷ [])
    ∷ deliver 2 114 frame_1_5_50 given.Taken 0 119 [] (steps.Copy p2_1 1 1 53248 1024 ∷ [])
    ∷ deliver 2 115 frame_1_5_51 given.Taken 0 120 [] (steps.Copy p2_1 1 1 54272 1024 ∷ [])
    ∷ []

abbrev told_6 : List Told
told_6 =
    deliver 2 116 frame_1_5_52 given.Taken 0 121 [] (steps.Copy p2_1 1 1 55296 1024 ∷ [])
    ∷ deliver 2 117 frame_1_5_53 given.Taken 0 122 [] (steps.Copy p2_1 1 1 56320 1024 ∷ [])
    ∷ deliver 2 118 frame_1_5_54 given.Taken 0 123 [] (steps.Copy p2_1 1 1 57344 1024 ∷ [])
    ∷ deliver 2 119 frame_1_5_55 given.Taken 0 124 [] (steps.Copy p2_1 1 1 58368 1024 ∷ [])
    ∷ deliver 2 120 frame_1_5_56 given.Taken 0 125 [] (steps.Copy p2_1 1 1 59392 1024 ∷ [])
    ∷ deliver 2 121 frame_1_5_57 given.Taken 0 126 [] (steps.Copy p2_1 1 1 60416 1024 ∷ [])
    ∷ deliver 2 122 frame_1_5_58 given.Taken 0 127 [] (steps.Copy p2_1 1 1 61440 1024 ∷ [])
    ∷ deliver 2 123 frame_1_5_59 given.Taken 0 128 [] (steps.Copy p2_1 1 1 62464 1024 ∷ [])
    ∷ deliver 2 124 frame_1_5_60 given.Taken 0 129 [] (steps.Copy p2_1 1 1 63488 1024 ∷ [])
    ∷ deliver 2 125 frame_1_5_61 given.Taken 0 130 (frame_2_125_1 ∷ []) (steps.Copy p2_1 1 1 64512 1024 ∷ [])
    ∷ deliver 1 6 frame_2_125_1 given.Taken 0 131 [] (steps.End p1_1 endings.Ok ∷ [])
    ∷ collect 7 p1_1 (given.Answered answers.Ok) 0 132 [] (steps.Collect p1_1 ∷ [])
    ∷ []

abbrev told : List Told
told = told_1 ++ told_2 ++ told_3 ++ told_4 ++ told_5 ++ told_6

entries : history_of settings (events_of told) ≡ happenings told
unfolding all_rules
entries = refl

observations : seen_in settings told ≡ Some (observed no_call (happenings told))
unfolding all_rules
observations = refl
