-- The limits by their numbers: those of the tables of docs/RULES.md, and that of what is emitted.
use Rattle.std.specs.Prelude.{◌≡◌}
use Rattle.vk_base.specs.declared.limits.TheConstants as bounds
use Rattle.vk_files.specs.declared.limits.TheConstants as directories
use Rattle.vk_pipe.specs.declared.limits.TheConstants as pipes
use Rattle.vk_event.specs.declared.task.TheConstants as tasks
use Rattle.vk_event.specs.declared.pair.TheConstants as pairs
use Rattle.vk_event.specs.declared.scenario.TheConstants as scenarios
use Rattle.vk_cluster.specs.declared.emitted.TheConstants as emitted

pub record LimitsAreTheirNumbers : Type 0 where
  -- of the kernel, of stations and of texts
  pub input_bytes : bounds.INPUT_BYTES ≡ 16777216
  pub line_bytes : bounds.LINE_BYTES ≡ 4096
  pub events : bounds.EVENTS ≡ 100000
  pub noted_bytes : bounds.NOTED_BYTES ≡ 268435456
  pub stations : bounds.STATIONS ≡ 16
  pub station_processes : bounds.STATION_PROCESSES ≡ 32
  pub processes : bounds.PROCESSES ≡ 512
  pub pool : bounds.POOL ≡ 64
  pub tries : bounds.TRIES ≡ 16
  pub interval : bounds.INTERVAL ≡ 64
  pub life : bounds.LIFE ≡ 1024
  pub memory_bytes : bounds.MEMORY_BYTES ≡ 131072
  pub message_bytes : bounds.MESSAGE_BYTES ≡ 32
  pub segment_bytes : bounds.SEGMENT_BYTES ≡ 512
  pub move_bytes : bounds.MOVE_BYTES ≡ 65536
  pub data_bytes : bounds.DATA_BYTES ≡ 1024
  pub header_bytes : bounds.HEADER_BYTES ≡ 32
  pub frame_bytes : bounds.FRAME_BYTES ≡ 1152
  pub names : bounds.NAMES ≡ 64
  pub steps : bounds.STEPS ≡ 40
  pub round_packets : bounds.ROUND_PACKETS ≡ 64
  pub tick_packets : bounds.TICK_PACKETS ≡ 2048
  pub station_events : bounds.STATION_EVENTS ≡ 281474976710656
  pub every_station : bounds.EVERY_STATION ≡ 65535
  pub short_number : bounds.SHORT_NUMBER ≡ 65535
  pub last_number : bounds.LAST_NUMBER ≡ 9223372036854775807
  -- of files
  pub block_bytes : directories.BLOCK_BYTES ≡ 512
  pub files : directories.FILES ≡ 16
  pub entry_bytes : directories.ENTRY_BYTES ≡ 32
  pub name_bytes : directories.NAME_BYTES ≡ 20
  pub file_bytes : directories.FILE_BYTES ≡ 65536
  pub file_blocks : directories.FILE_BLOCKS ≡ 128
  -- of pipes
  pub pipe_bytes : pipes.PIPE_BYTES ≡ 2048
  pub waiting_requests : pipes.WAITING_REQUESTS ≡ 16
  -- of tasks
  pub page_bytes : tasks.PAGE_BYTES ≡ 512
  pub pages : tasks.PAGES ≡ 4096
  pub task_files : tasks.FILES ≡ 16
  pub image_bytes : tasks.IMAGE_BYTES ≡ 65536
  -- of groups
  pub group_members : pairs.GROUP_MEMBERS ≡ 16
  -- of scenarios
  pub ticks : scenarios.TICKS ≡ 50000
  -- of what stations emitted before an event
  pub last_bytes : emitted.LAST_BYTES ≡ 266076160
