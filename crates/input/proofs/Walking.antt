-- The walk over the records of a file, a step at a time.
use Rattle.std.proofs.Common.{◌≡◌, ℕ, ◌+◌, ◌<◌, ◌≤◌, List, [], ◌∷◌, ◌++◌, length, Some, None, Ok, Err, Result, MatchResult, subst}
use Rattle.demand.specs.declared.task.Figures.{Figures}
use Rattle.processor.specs.declared.mode.Mode.{Mode}
use Rattle.processor.specs.declared.mode.Switch.{Switch}
use Rattle.input.specs.Entries.{EntryIn}
use Rattle.input.specs.Headers.{HeaderIn, EntryAt}
use Rattle.input.specs.ProcessorFiles as processor
use Rattle.input.specs.ProcessorFiles.{field_refused, Listed, nothing, entry_answer, Entered, TableFault, EntriesUpTo, ProcessorFault}
use Rattle.input.specs.TaskFiles as tasks
use Rattle.input.specs.TaskFiles.{FiguresIn, TasksUpTo, TaskFault, TasksRead}
use Rattle.input.specs.Walk.{SameFile, NextEntry}
use Rattle.input.specs.declared.entries.Entries.{Entries}
use Rattle.input.specs.declared.entry.Entry.{Entry}
use Rattle.input.specs.declared.fault.Fault.{Fault}
use Rattle.input.specs.declared.fault.Source.{Source}
use Rattle.input.specs.declared.fault.Source.TheVariants.{Processor, Tasks}
use Rattle.input.specs.declared.line.Line.{Line}

-- a record is read, or its fault
pub step_read : (s t : Entries) (r : Result Line Fault) → s.at < length s.file.now → EntryAt s.file.now s.source (s.number + 1) s.at r → SameFile s t → t.number ≡ s.number + 1 → MatchResult r (λ line. t.at ≡ line.«record».next) (λ _. t.at ≡ length s.file.now) → NextEntry s (Some r) t
step_read s t (Ok line) l h f n a = (l, h, f, n, a)
step_read s t (Err e) l h f n a = (l, h, f, a)

-- a walk goes over a file of a source
abbrev pub Stands : List ℕ → Source → Entries → Type 0
Stands F src s = (s.file.now ≡ F) × (s.source ≡ src)

-- one record more is read
abbrev pub Stepped : List ℕ → Source → Entries → Entries → Line → Type 0
Stepped F src s t line =
    (s.at < length F) × EntryAt F src (s.number + 1) s.at (Ok line) × (t.file.now ≡ F) × (t.source ≡ src)
    × (t.number ≡ s.number + 1) × (t.at ≡ line.«record».next)

-- the next record is at fault
abbrev pub Stopped : List ℕ → Source → Entries → Fault → Type 0
Stopped F src s e = (s.at < length F) × EntryAt F src (s.number + 1) s.at (Err e)

next_whole : (F : List ℕ) (src : Source) (s t : Entries) (r : Result Line Fault) (line : Line) → Stands F src s → NextEntry s (Some r) t → r ≡ Ok line → Stepped F src s t line
next_whole F src s t r line (f, i) h e =
    let k : NextEntry s (Some (Ok line)) t = subst (λ x. NextEntry s (Some x) t) e h in
    subst (λ x. Stepped x src s t line) f
    (subst (λ x. Stepped s.file.now x s t line) i (k.0, k.1, k.2.0, k.2.1, k.3, k.4))

next_fault : (F : List ℕ) (src : Source) (s t : Entries) (r : Result Line Fault) (x : Fault) → Stands F src s → NextEntry s (Some r) t → r ≡ Err x → Stopped F src s x
next_fault F src s t r x (f, i) h e =
    let k : NextEntry s (Some (Err x)) t = subst (λ y. NextEntry s (Some y) t) e h in
    subst (λ y. Stopped y src s x) f (subst (λ y. Stopped s.file.now y s x) i (k.0, k.1))

next_none : (F : List ℕ) (src : Source) (s t : Entries) → Stands F src s → NextEntry s None t → length F ≤ s.at
next_none F src s t (f, i) h = subst (λ x. length x ≤ s.at) f h.0

-- the header of a file is read
abbrev pub Headed : List ℕ → Source → Entries → Type 0
Headed F src s = HeaderIn F src (Ok s.at) × (s.file.now ≡ F) × (s.source ≡ src) × (s.number ≡ 0)

-- tasks are read, up to where a walk stands
abbrev pub TasksWalked : List ℕ → Entries → List Figures → Type 0
TasksWalked F s ts = Stands F Tasks s × TasksUpTo F s.number s.at ts

pub tasks_first : (F : List ℕ) (s t : Entries) (ts : List Figures) → Headed F Tasks s → t ≡ s → ts ≡ [] → TasksWalked F t ts
tasks_first F s t ts h e n = rw (e, n) ((h.1, h.2), rw h.3 (tasks.header h.0))

pub tasks_more : (F : List ℕ) (s t : Entries) (r : Result Line Fault) (line : Line) (f : Figures) (ts us : List Figures) → TasksWalked F s ts → NextEntry s (Some r) t → r ≡ Ok line → FiguresIn line (Ok f) → us ≡ ts ++ f ∷ [] → TasksWalked F t us
tasks_more F s t r line f ts us (a, u) h e g p =
    let k = next_whole F Tasks s t r line a h e in
    ((k.2, k.3), rw (k.4, k.5, p) (tasks.entry line f u k.0 k.1 g))

pub tasks_stopped : (F : List ℕ) (s t : Entries) (r : Result Line Fault) (x : Fault) (ts : List Figures) → TasksWalked F s ts → NextEntry s (Some r) t → r ≡ Err x → TaskFault F x
tasks_stopped F s t r x ts (a, u) h e = let k = next_fault F Tasks s t r x a h e in tasks.in_entry u k.0 k.1

pub tasks_refused : (F : List ℕ) (s t : Entries) (r : Result Line Fault) (line : Line) (x : Fault) (ts : List Figures) → TasksWalked F s ts → NextEntry s (Some r) t → r ≡ Ok line → FiguresIn line (Err x) → TaskFault F x
tasks_refused F s t r line x ts (a, u) h e g = let k = next_whole F Tasks s t r line a h e in tasks.in_figure line u k.0 k.1 g

pub tasks_all : (F : List ℕ) (s t : Entries) (ts : List Figures) → TasksWalked F s ts → NextEntry s None t → TasksRead F (Ok ts)
tasks_all F s t ts (a, u) h = (s.number, s.at, u, next_none F Tasks s t a h)

-- a table that lists nothing
pub listed_none : (ms : List Mode) (ss : List Switch) (ps : List ℕ) → ms ≡ [] → ss ≡ [] → ps ≡ [] → ◌≡◌ {A = Listed} (record { modes = ms; switches = ss; frames = ps }) nothing
listed_none ms ss ps p q r = rw (p, q, r)

-- entries are listed in the table, up to where a walk stands
abbrev pub EntriesWalked : List ℕ → Entries → Listed → Type 0
EntriesWalked F s l = Stands F Processor s × EntriesUpTo F s.number s.at l

pub entries_first : (F : List ℕ) (s t : Entries) (l : Listed) → Headed F Processor s → t ≡ s → l ≡ nothing → EntriesWalked F t l
entries_first F s t l h e n = rw (e, n) ((h.1, h.2), rw h.3 (processor.header h.0))

pub entries_more : (F : List ℕ) (s t : Entries) (r : Result Line Fault) (line : Line) (x : Entry) (l m : Listed) → EntriesWalked F s l → NextEntry s (Some r) t → r ≡ Ok line → EntryIn line (Ok x) → entry_answer x l ≡ Ok tt → Entered x l m → EntriesWalked F t m
entries_more F s t r line x l m (a, u) h e g o n =
    let k = next_whole F Processor s t r line a h e in
    ((k.2, k.3), rw (k.4, k.5) (processor.entry line x u k.0 k.1 g o n))

pub entries_stopped : (F : List ℕ) (s t : Entries) (r : Result Line Fault) (x : Fault) (l : Listed) → EntriesWalked F s l → NextEntry s (Some r) t → r ≡ Err x → ProcessorFault F x
entries_stopped F s t r x l (a, u) h e = let k = next_fault F Processor s t r x a h e in processor.in_record u k.0 k.1

pub entries_faulty : (F : List ℕ) (s t : Entries) (r : Result Line Fault) (line : Line) (x : Fault) (l : Listed) → EntriesWalked F s l → NextEntry s (Some r) t → r ≡ Ok line → EntryIn line (Err x) → ProcessorFault F x
entries_faulty F s t r line x l (a, u) h e g = let k = next_whole F Processor s t r line a h e in processor.in_field line u k.0 k.1 g

pub entries_refused : (F : List ℕ) (s t : Entries) (r : Result Line Fault) (line : Line) (x : Entry) (f : Fault) (l : Listed) → EntriesWalked F s l → NextEntry s (Some r) t → r ≡ Ok line → EntryIn line (Ok x) → TableFault line x l f → ProcessorFault F f
entries_refused F s t r line x f l (a, u) h e g v = let k = next_whole F Processor s t r line a h e in processor.in_table line x u k.0 k.1 g v

pub entries_end : (F : List ℕ) (s t : Entries) (l : Listed) → EntriesWalked F s l → NextEntry s None t → EntriesUpTo F s.number s.at l × (length F ≤ s.at)
entries_end F s t l (a, u) h = (u, next_none F Processor s t a h)
