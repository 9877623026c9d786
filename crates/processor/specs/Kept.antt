-- What a filled table keeps.
use Rattle.std.specs.Prelude.{◌≡◌, ℕ, ◌≤◌, true, List, All, AllPairs, ◌≢◌}
use Rattle.processor.specs.Limits.{longest_frame}
use Rattle.processor.specs.Tables.{has_mode}
use Rattle.processor.specs.declared.mode.Mode.{Mode}
use Rattle.processor.specs.declared.mode.Switch.{Switch}

-- no mode number is listed twice
abbrev pub ModesDiffer : List Mode → Type 0
ModesDiffer ms = AllPairs (λ m n. m.number ≢ n.number) ms

-- no switch is listed twice
abbrev pub SwitchesDiffer : List Switch → Type 0
SwitchesDiffer ss = AllPairs (λ s t. s.from ≡ t.from → s.to ≢ t.to) ss

-- each switch is between listed modes
abbrev pub Between : List Mode → List Switch → Type 0
Between ms ss = All (λ s. (has_mode s.from ms ≡ true) × (has_mode s.to ms ≡ true)) ss

-- no frame is listed twice, and each is within its limits
abbrev pub FramesDiffer : List ℕ → Type 0
FramesDiffer ps = AllPairs (λ p q. p ≢ q) ps

abbrev pub FramesFit : List ℕ → Type 0
FramesFit ps = All (λ p. (1 ≤ p) × (p ≤ longest_frame)) ps
