-- Where the text of a field ends, in its file.
use Rattle.std.proofs.Common.{◌≡◌, ℕ, ◌+◌, ◌<◌, ◌≤◌, ◌≢◌, List, length, get_or}
use Rattle.std.specs.List.{between}
use Rattle.rfc4180.specs.Grammar.{Text, Quotable, Plain, Quoted}

-- the text of a field with no quotes around it ends at a place
pub record PlainEnd (F : List ℕ) (s e : ℕ) : Type 0 where
  pub forward : s ≤ e
  pub within : e ≤ length F
  pub unquoted : s < length F → get_or F s 0 ≢ 34
  pub plain : Plain (between s e F)
  pub stops : e < length F → Text (get_or F e 0) → ⊥

-- what stands after the opening quote of a field ends at a place
pub record QuotedEnd (F : List ℕ) (s e : ℕ) : Type 0 where
  pub opens : s < length F
  pub opened : get_or F s 0 ≡ 34
  pub forward : s + 1 ≤ e
  pub within : e ≤ length F
  pub quoted : Quoted (between (s + 1) e F)
  pub stops : e < length F → Quotable (get_or F e 0) → ⊥
  pub unpaired : e + 1 < length F → get_or F e 0 ≡ 34 → get_or F (e + 1) 0 ≢ 34
