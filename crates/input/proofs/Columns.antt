-- The columns of a file, in the fields of its header.
use Rattle.std.proofs.Common.{◌≡◌, ℕ, ◌<◌, Bor, Bool, true, false, List, length, map, MatchBool, sym, subst}
use Rattle.std.proofs.lemmas.List.{get_or-map, length-map}
use Rattle.std.proofs.lemmas.List.Elements.{All-map, All-from_all_within, AllWithin-from_all}
use Rattle.std.proofs.lemmas.List.Folds.{none_from_all_within}
use Rattle.std.specs.List.{All, AllWithin, HoldsAt}
use Rattle.rfc4180.specs.declared.part.Record.{Record}
use Rattle.input.specs.Cells.{Cell}
use Rattle.input.specs.Headers.{columns_of, width_of, Heads}
use Rattle.input.specs.declared.fault.Source.{Source}

-- a column as the code holds it, and as the rules write it
abbrev pub Column : Type 0
Column = ℕ × Bor (List ℕ)

abbrev pub shown : Column → ℕ × List ℕ
shown c = (c.0, c.1.now)

not_refuted : {X Y : Type 0} (P : Y → Type 0) (f : X → Y) (xs : List X) → All P (map f xs) → All (λ x. (P (f x) → ⊥) → ⊥) xs
not_refuted P f xs h k d l n = n (subst P (get_or-map f xs k d (f d) l) (h k (f d) (rw length-map l)))

-- a record heads its file where each of its fields has the name of its column
pub heads_decided : (s : Source) (F : List ℕ) (r : Record) (cs : List Column) (b : Bool) → map shown cs ≡ columns_of s → r.fields ≡ width_of s → MatchBool b (AllWithin (λ c. Cell F r c.0 c.1.now) cs 0 (length cs)) ((k : ℕ) × (k < length cs) × HoldsAt (λ c. Cell F r c.0 c.1.now → ⊥) cs k) → MatchBool b (Heads s F r) (Heads s F r → ⊥)
heads_decided s F r cs true e w h =
    let P : ℕ × List ℕ → Type 0 = λ c. Cell F r c.0 c.1 in
    (w, subst (All P) e (All-map P shown cs (All-from_all_within (λ c. P (shown c)) cs h)))
heads_decided s F r cs false e w h =
    λ k.
    let P : ℕ × List ℕ → Type 0 = λ c. Cell F r c.0 c.1 in
    let a : All P (map shown cs) = subst (All P) (sym e) k.1 in
    none_from_all_within (λ c. P (shown c) → ⊥) cs (AllWithin-from_all (λ c. (P (shown c) → ⊥) → ⊥) cs (not_refuted P shown cs a)) h
