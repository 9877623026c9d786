-- What is made of figures.
use Rattle.std.specs.Prelude.{◌≡◌, ℕ, ◌≤◌}
use Rattle.processor.specs.Limits.{last_mode, top_speed, top_power}
use Rattle.processor.specs.declared.drive.Drive.{Drive}
use Rattle.processor.specs.declared.drive.Drive.TheVariants.{Fixed, Pair}
use Rattle.processor.specs.declared.mode.Mode.{Mode}

pub record ModeLimits (number speed power : ℕ) : Type 0 where
  pub counted : 1 ≤ number
  pub numbered : number ≤ last_mode
  pub slow : speed ≤ top_speed
  pub weak : power ≤ top_power

-- the fixed drive of these figures
abbrev pub FixedOf : ℕ → ℕ → ℕ → Drive → Type 0
FixedOf number speed power (Fixed m) = (m.number ≡ number) × (m.speed ≡ speed) × (m.power ≡ power)
FixedOf number speed power (Pair p) = ⊥

-- the pair of these modes, switches and times
abbrev pub PairOf : Mode → Mode → ℕ → ℕ → ℕ → ℕ → Drive → Type 0
PairOf low high up down low_time high_time (Fixed m) = ⊥
PairOf low high up down low_time high_time (Pair p) =
    (p.low ≡ low) × (p.high ≡ high) × (p.up ≡ up) × (p.down ≡ down) × (p.low_time ≡ low_time) × (p.high_time ≡ high_time)
