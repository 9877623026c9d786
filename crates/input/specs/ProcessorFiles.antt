-- The processor's file: a header, then an entry of the table in each record.
use Rattle.std.specs.Prelude.{◌≡◌, ℕ, ◌+◌, ◌<◌, ◌≤◌, List, [], ◌∷◌, ◌++◌, length, Ok, Err, vec_items, Result}
use Rattle.processor.specs.Tables.{mode_answer, switch_answer, frame_answer, ListsMode, ListsSwitch}
use Rattle.processor.specs.declared.mode.Mode.{Mode}
use Rattle.processor.specs.declared.mode.Switch.{Switch}
use Rattle.processor.specs.declared.refusal.Refusal.{Refusal}
use Rattle.processor.specs.declared.refusal.Refusal.TheVariants as refusal
use Rattle.processor.specs.declared.table.Processor.{Processor as ProcessorTable}
use Rattle.input.specs.Cells.{fault_of}
use Rattle.input.specs.Entries.{EntryIn}
use Rattle.input.specs.Headers.{HeaderIn, EntryAt}
use Rattle.input.specs.declared.entry.Entry.{Entry}
use Rattle.input.specs.declared.entry.Entry.TheVariants.{Mode as AMode, Switch as ASwitch, Frame as AFrame}
use Rattle.input.specs.declared.fault.Fault.{Fault}
use Rattle.input.specs.declared.fault.Layer.TheVariants.{Table}
use Rattle.input.specs.declared.fault.Source.TheVariants.{Processor}
use Rattle.input.specs.declared.fault.Unread.{Unread}
use Rattle.input.specs.declared.fault.Unread.TheVariants.{Faulty, Memory}
use Rattle.input.specs.declared.line.Line.{Line}

-- the field of an entry that the table refuses, by the cause
abbrev pub field_refused : Refusal → ℕ
field_refused refusal.FileTooLong = 0
field_refused refusal.NotCsv = 0
field_refused refusal.HeaderDiffers = 0
field_refused refusal.FieldCount = 0
field_refused refusal.NotANumber = 0
field_refused refusal.UnknownKind = 0
field_refused refusal.FrameFieldFilled = 0
field_refused refusal.ModeNumber = 2
field_refused refusal.ModeRepeated = 2
field_refused refusal.SpeedLimit = 3
field_refused refusal.PowerLimit = 4
field_refused refusal.FromUnlisted = 2
field_refused refusal.ToUnlisted = 3
field_refused refusal.SwitchToItself = 3
field_refused refusal.SwitchRepeated = 3
field_refused refusal.SwitchLimit = 4
field_refused refusal.FrameLimit = 2
field_refused refusal.FrameRepeated = 2
field_refused refusal.NinthFrame = 2
field_refused refusal.NoMode = 0
field_refused refusal.ShareNumbers = 0
field_refused refusal.HoldoffLimit = 0
field_refused refusal.TaskFigure = 0
field_refused refusal.RankTaken = 0
field_refused refusal.PlanFull = 0
field_refused refusal.NoTickets = 0
field_refused refusal.OutsideSpan = 0
field_refused refusal.NoDrive = 0
field_refused refusal.TicketNeverGiven = 0
field_refused refusal.TicketWithdrawn = 0
field_refused refusal.WindowLimit = 0
field_refused refusal.NotACandidate = 0
field_refused refusal.LengthsDiffer = 0
field_refused refusal.NoRoom = 0
field_refused refusal.Memory = 0

-- what a table lists
pub record Listed : Type 0 where
  pub modes : List Mode
  pub switches : List Switch
  pub frames : List ℕ

abbrev pub listed : ProcessorTable → Listed
listed t = record { modes = vec_items t.modes; switches = vec_items t.switches; frames = vec_items t.frames }

-- an empty table
abbrev pub nothing : Listed
nothing = record { modes = []; switches = []; frames = [] }

-- what the table answers to an entry
abbrev pub entry_answer : Entry → Listed → Result (Unit {0}) Refusal
entry_answer (AMode number speed power) t = mode_answer t.modes number speed power
entry_answer (ASwitch a b time) t = switch_answer t.modes t.switches a b time
entry_answer (AFrame p) t = frame_answer t.frames p

-- the table with one entry more: what it listed, and what it lists then
abbrev pub Entered : Entry → Listed → Listed → Type 0
Entered (AMode number speed power) t u = ListsMode t.modes u.modes number speed power × (u.switches ≡ t.switches) × (u.frames ≡ t.frames)
Entered (ASwitch a b time) t u = ListsSwitch t.switches u.switches a b time × (u.modes ≡ t.modes) × (u.frames ≡ t.frames)
Entered (AFrame p) t u = (u.frames ≡ t.frames ++ p ∷ []) × (u.modes ≡ t.modes) × (u.switches ≡ t.switches)

-- the table refuses the entry of a record
abbrev pub TableFault : Line → Entry → Listed → Fault → Type 0
TableFault line x t e = (c : Refusal) × (entry_answer x t ≡ Err c) × (e ≡ fault_of line Table c (field_refused c))

-- so many records after the header are read, up to a place, and the table lists their entries
pub data EntriesUpTo (file : List ℕ) : ℕ → ℕ → Listed → Type 0 where
  header : {at : ℕ} → HeaderIn file Processor (Ok at) → EntriesUpTo file 0 at nothing
  entry : {n at : ℕ} {t u : Listed} (line : Line) (e : Entry) → EntriesUpTo file n at t → at < length file → EntryAt file Processor (n + 1) at (Ok line) → EntryIn line (Ok e) → entry_answer e t ≡ Ok tt → Entered e t u → EntriesUpTo file (n + 1) line.«record».next u

-- the first fault of the file
pub data ProcessorFault (file : List ℕ) (e : Fault) : Type 0 where
  in_header : HeaderIn file Processor (Err e) → ProcessorFault file e
  in_record : {n at : ℕ} {t : Listed} → EntriesUpTo file n at t → at < length file → EntryAt file Processor (n + 1) at (Err e) → ProcessorFault file e
  in_field : {n at : ℕ} {t : Listed} (line : Line) → EntriesUpTo file n at t → at < length file → EntryAt file Processor (n + 1) at (Ok line) → EntryIn line (Err e) → ProcessorFault file e
  in_table : {n at : ℕ} {t : Listed} (line : Line) (x : Entry) → EntriesUpTo file n at t → at < length file → EntryAt file Processor (n + 1) at (Ok line) → EntryIn line (Ok x) → TableFault line x t e → ProcessorFault file e
  no_mode : {n at : ℕ} {t : Listed} → EntriesUpTo file n at t → length file ≤ at → length t.modes ≡ 0 → e ≡ record { layer = Table; cause = refusal.NoMode; file = Processor; «record» = 0; field = 0 } → ProcessorFault file e

-- the whole file is read, and the table lists its entries, at least one mode among them
abbrev pub EntriesRead : List ℕ → ProcessorTable → Type 0
EntriesRead file t = (n : ℕ) × (at : ℕ) × EntriesUpTo file n at (listed t) × (length file ≤ at) × (0 < length (vec_items t.modes))

abbrev pub Blamed : List ℕ → Unread → Type 0
Blamed file (Faulty e) = ProcessorFault file e
Blamed file Memory = Unit {0}
