-- A step of the walk over the records of a file after its header.
use Rattle.std.specs.Prelude.{◌≡◌, ◌+◌, ◌<◌, ◌≤◌, length, Some, None, Ok, Err, Option, Result}
use Rattle.input.specs.Headers.{EntryAt}
use Rattle.input.specs.declared.entries.Entries.{Entries}
use Rattle.input.specs.declared.fault.Fault.{Fault}
use Rattle.input.specs.declared.line.Line.{Line}

-- a walk stays in its file
abbrev pub SameFile : Entries → Entries → Type 0
SameFile s t = (t.file.now ≡ s.file.now) × (t.source ≡ s.source)

-- the next record, or its fault, with which the walk ends; none is left where the file ends
abbrev pub NextEntry : Entries → Option (Result Line Fault) → Entries → Type 0
NextEntry s None t = (length s.file.now ≤ s.at) × (t ≡ s)
NextEntry s (Some (Ok line)) t =
    (s.at < length s.file.now) × EntryAt s.file.now s.source (s.number + 1) s.at (Ok line)
    × SameFile s t × (t.number ≡ s.number + 1) × (t.at ≡ line.«record».next)
NextEntry s (Some (Err e)) t =
    (s.at < length s.file.now) × EntryAt s.file.now s.source (s.number + 1) s.at (Err e)
    × SameFile s t × (t.at ≡ length s.file.now)
