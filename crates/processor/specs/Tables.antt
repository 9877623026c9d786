-- What a processor table lists, and what it answers to an entry.
use Rattle.std.specs.Prelude.{◌≡◌, ℕ, ◌<◌, ◌≤◌, Bool, true, false, cond, List, [], ◌∷◌, ◌++◌, length, find, is_some, Ok, Err, Option, Result, MatchOption, ◌==◌, nat_lt}
use Rattle.std.specs.List.{list_any}
use Rattle.std.specs.Option.{option_map}
use Rattle.processor.specs.Limits.{last_mode, top_speed, top_power, longest_switch, longest_frame, most_frames}
use Rattle.processor.specs.declared.mode.Mode.{Mode}
use Rattle.processor.specs.declared.mode.Switch.{Switch}
use Rattle.processor.specs.declared.refusal.Refusal.{Refusal}
use Rattle.processor.specs.declared.refusal.Refusal.TheVariants.{
  ModeNumber,
  ModeRepeated,
  SpeedLimit,
  PowerLimit,
  FromUnlisted,
  ToUnlisted,
  SwitchToItself,
  SwitchRepeated,
  SwitchLimit,
  FrameLimit,
  FrameRepeated,
  NinthFrame,
}

abbrev pub has_number : ℕ → Mode → Bool
has_number n m = m.number == n

abbrev pub leads : ℕ → ℕ → Switch → Bool
leads a b s = cond (s.from == a) (s.to == b) false

abbrev pub lasts : ℕ → ℕ → Bool
lasts p q = q == p

-- the mode of a number
abbrev pub mode_of : ℕ → List Mode → Option Mode
mode_of n ms = find (has_number n) ms

-- the time of the switch from one mode to another; without one the switch is impossible
abbrev pub time_of : ℕ → ℕ → List Switch → Option ℕ
time_of a b ss = option_map (λ s. s.time) (find (leads a b) ss)

-- a mode is listed
abbrev pub has_mode : ℕ → List Mode → Bool
has_mode n ms = is_some (mode_of n ms)

abbrev pub has_switch : ℕ → ℕ → List Switch → Bool
has_switch a b ss = is_some (time_of a b ss)

abbrev pub has_frame : ℕ → List ℕ → Bool
has_frame p ps = list_any (lasts p) ps

-- the longest listed frame that is shorter than a bound, or none where no frame is
abbrev pub LongestBelow : ℕ → List ℕ → Option ℕ → Type 0
LongestBelow bound ps r =
    MatchOption r ((p : ℕ) → has_frame p ps ≡ true → bound ≤ p)
    (λ f. (f < bound) × (has_frame f ps ≡ true) × ((p : ℕ) → has_frame p ps ≡ true → p < bound → p ≤ f))

-- the answer to one mode more
abbrev pub mode_answer : List Mode → ℕ → ℕ → ℕ → Result (Unit {0}) Refusal
mode_answer ms number speed power =
    cond (nat_lt number 1) (Err ModeNumber)
    (cond (nat_lt last_mode number) (Err ModeNumber)
    (cond (has_mode number ms) (Err ModeRepeated)
    (cond (nat_lt top_speed speed) (Err SpeedLimit)
    (cond (nat_lt top_power power) (Err PowerLimit) (Ok tt)))))

-- the answer to one switch more
abbrev pub switch_answer : List Mode → List Switch → ℕ → ℕ → ℕ → Result (Unit {0}) Refusal
switch_answer ms ss a b time =
    cond (has_mode a ms)
    (cond (has_mode b ms)
    (cond (a == b) (Err SwitchToItself)
    (cond (has_switch a b ss) (Err SwitchRepeated)
    (cond (nat_lt longest_switch time) (Err SwitchLimit) (Ok tt))))
    (Err ToUnlisted))
    (Err FromUnlisted)

-- the answer to one frame more
abbrev pub frame_answer : List ℕ → ℕ → Result (Unit {0}) Refusal
frame_answer ps p =
    cond (nat_lt p 1) (Err FrameLimit)
    (cond (nat_lt longest_frame p) (Err FrameLimit)
    (cond (has_frame p ps) (Err FrameRepeated)
    (cond (nat_lt (length ps) most_frames) (Ok tt) (Err NinthFrame))))

-- the list with one mode more, of these figures
abbrev pub ListsMode : List Mode → List Mode → ℕ → ℕ → ℕ → Type 0
ListsMode old new number speed power =
    (m : Mode) × (m.number ≡ number) × (m.speed ≡ speed) × (m.power ≡ power) × (new ≡ old ++ m ∷ [])

-- the list with one switch more
abbrev pub ListsSwitch : List Switch → List Switch → ℕ → ℕ → ℕ → Type 0
ListsSwitch old new a b time = (s : Switch) × (s.from ≡ a) × (s.to ≡ b) × (s.time ≡ time) × (new ≡ old ++ s ∷ [])
