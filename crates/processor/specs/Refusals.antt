-- The number of every refusal, and what it says was expected.
use Rattle.std.specs.Prelude.{ℕ, List, codes}
use Rattle.processor.specs.declared.refusal.Refusal.{Refusal}
use Rattle.processor.specs.declared.refusal.Refusal.TheVariants.{
  FileTooLong,
  NotCsv,
  HeaderDiffers,
  FieldCount,
  NotANumber,
  UnknownKind,
  FrameFieldFilled,
  ModeNumber,
  ModeRepeated,
  SpeedLimit,
  PowerLimit,
  FromUnlisted,
  ToUnlisted,
  SwitchToItself,
  SwitchRepeated,
  SwitchLimit,
  FrameLimit,
  FrameRepeated,
  NinthFrame,
  NoMode,
  ShareNumbers,
  HoldoffLimit,
  TaskFigure,
  RankTaken,
  PlanFull,
  NoTickets,
  OutsideSpan,
  NoDrive,
  TicketNeverGiven,
  TicketWithdrawn,
  WindowLimit,
  NotACandidate,
  LengthsDiffer,
  NoRoom,
  Memory,
}

abbrev pub refusal_number : Refusal → ℕ
refusal_number FileTooLong = 1
refusal_number NotCsv = 2
refusal_number HeaderDiffers = 3
refusal_number FieldCount = 4
refusal_number NotANumber = 5
refusal_number UnknownKind = 6
refusal_number FrameFieldFilled = 6
refusal_number ModeNumber = 10
refusal_number ModeRepeated = 10
refusal_number SpeedLimit = 11
refusal_number PowerLimit = 11
refusal_number FromUnlisted = 12
refusal_number ToUnlisted = 12
refusal_number SwitchToItself = 12
refusal_number SwitchRepeated = 12
refusal_number SwitchLimit = 13
refusal_number FrameLimit = 14
refusal_number FrameRepeated = 14
refusal_number NinthFrame = 14
refusal_number NoMode = 15
refusal_number ShareNumbers = 16
refusal_number HoldoffLimit = 17
refusal_number TaskFigure = 20
refusal_number RankTaken = 21
refusal_number PlanFull = 22
refusal_number NoTickets = 23
refusal_number OutsideSpan = 24
refusal_number NoDrive = 25
refusal_number TicketNeverGiven = 26
refusal_number TicketWithdrawn = 27
refusal_number WindowLimit = 30
refusal_number NotACandidate = 31
refusal_number LengthsDiffer = 32
refusal_number NoRoom = 33
refusal_number Memory = 99

abbrev pub expected_text : Refusal → List ℕ
expected_text FileTooLong = codes "a file of at most 65,536 bytes"
expected_text NotCsv = codes "CSV by RFC 4180 with CR LF line ends"
expected_text HeaderDiffers = codes "the header of this file"
expected_text FieldCount = codes "as many fields as the header has"
expected_text NotANumber = codes "one to ten digits, at most 4294967295"
expected_text UnknownKind = codes "mode, switch or frame"
expected_text FrameFieldFilled = codes "nothing, since a frame has only its length"
expected_text ModeNumber = codes "a mode number from 1 to 16"
expected_text ModeRepeated = codes "a mode number that is not listed before"
expected_text SpeedLimit = codes "a speed of at most 10000 MHz"
expected_text PowerLimit = codes "a power of at most 100000 mW"
expected_text FromUnlisted = codes "a mode that is listed before"
expected_text ToUnlisted = codes "a mode that is listed before"
expected_text SwitchToItself = codes "another mode than the switch comes from"
expected_text SwitchRepeated = codes "a switch that is not listed before"
expected_text SwitchLimit = codes "a switch of at most 20000 microseconds"
expected_text FrameLimit = codes "a frame of 1 to 20000 microseconds"
expected_text FrameRepeated = codes "a frame that is not listed before"
expected_text NinthFrame = codes "at most eight frames"
expected_text NoMode = codes "at least one mode"
expected_text ShareNumbers = codes "at least one part and at most all, of at most 1000"
expected_text HoldoffLimit = codes "a holdoff of at most 1000000 microseconds"
expected_text TaskFigure = codes "each figure of the task within its limits"
expected_text RankTaken = codes "a rank that no other task has"
expected_text PlanFull = codes "at most sixteen tasks"
expected_text NoTickets = codes "at most 65535 tickets"
expected_text OutsideSpan = codes "a hyperperiod of at most 1000000 microseconds"
expected_text NoDrive = codes "tasks that some drive can serve"
expected_text TicketNeverGiven = codes "a ticket that was given"
expected_text TicketWithdrawn = codes "a ticket that was not withdrawn"
expected_text WindowLimit = codes "a window of at most 1000000 microseconds"
expected_text NotACandidate = codes "a drive that the processor offers"
expected_text LengthsDiffer = codes "as many places as windows"
expected_text NoRoom = codes "room for the whole line"
expected_text Memory = codes "enough memory"
