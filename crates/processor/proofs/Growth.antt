-- One entry more in a table: what it keeps, and that there is room.
use Rattle.std.proofs.Common.{◌≡◌, ℕ, ◌+◌, ◌-◌, ◌*◌, ◌<◌, ◌≤◌, true, false, List, [], ◌∷◌, ◌++◌, length, get_or, is_some, Option, sym, ap, ◌∙◌, arith, length-append, eq-eqb, eqb-true}
use Rattle.std.specs.Prelude.{find, ◌≢◌}
use Rattle.std.proofs.lemmas.List.Folds.{list_any_at}
use Rattle.std.proofs.lemmas.List.Quantifiers.{all_pairs_push}
use Rattle.processor.specs.Limits.{last_mode, most_switches}
use Rattle.processor.specs.Tables.{has_number, leads, lasts, mode_of, has_mode, has_switch, has_frame}
use Rattle.processor.specs.Kept.{ModesDiffer, SwitchesDiffer, Between, FramesDiffer}
use Rattle.processor.specs.declared.mode.Mode.{Mode}
use Rattle.processor.specs.declared.mode.Switch.{Switch}
use Rattle.processor.proofs.Listed.{found, found_passes, none_passes, found_more, some_mapped, few}

-- a listed number is within the limits
pub has_mode_limits : (n : ℕ) (ms : List Mode) → has_mode n ms ≡ true → (1 ≤ n) × (n ≤ last_mode)
has_mode_limits n ms e =
    let (m, f) = found (mode_of n ms) e in
    let q = eqb-true m.number n (found_passes (has_number n) ms m f) in
    (omega (arith, m.counted), omega (arith, m.numbered))

module _ (ms : List Mode) (m : Mode) (apart : ModesDiffer ms) (new : has_mode m.number ms ≡ false) where
  pub modes_more : ModesDiffer (ms ++ m ∷ [])
  modes_more =
      all_pairs_push (λ a b. a.number ≢ b.number) ms m apart
      (λ k d h e. let f = none_passes (has_number m.number) ms new k d h in let t = eq-eqb (get_or ms k d).number m.number e in cc)

  pub modes_room : length ms < last_mode
  modes_room =
      let k = few (λ a. a.number - 1) last_mode (ms ++ m ∷ []) (λ a. omega (arith, a.counted, a.numbered))
      (λ i j d h l e. modes_more i j d h l (omega (arith, (get_or (ms ++ m ∷ []) i d).counted, (get_or (ms ++ m ∷ []) j d).counted))) in
      let e = length-append ms (m ∷ []) in
      omega arith

-- switches stay between listed modes
pub between_more : (ms : List Mode) (m : Mode) (ss : List Switch) → Between ms ss → Between (ms ++ m ∷ []) ss
between_more ms m ss b =
    λ k d h. let (from, to) = b k d h in (found_more _ ms (m ∷ []) from, found_more _ ms (m ∷ []) to)

module _ (ss : List Switch) (s : Switch) (apart : SwitchesDiffer ss) (new : has_switch s.from s.to ss ≡ false) where
  pub switches_more : SwitchesDiffer (ss ++ s ∷ [])
  switches_more =
      all_pairs_push (λ a b. a.from ≡ b.from → a.to ≢ b.to) ss s apart
      (λ k d h e f.
      let n = none_passes (leads s.from s.to) ss (sym (some_mapped (λ t. t.time) (find (leads s.from s.to) ss)) ∙ new) k d h in
      let a = eq-eqb (get_or ss k d).from s.from e in
      let t : leads s.from s.to (get_or ss k d) ≡ true = rw a (eq-eqb (get_or ss k d).to s.to f) in
      cc)

  pub switches_room : length ss < most_switches
  switches_room =
      let k = few (λ a. (a.from - 1) * 16 + (a.to - 1)) most_switches (ss ++ s ∷ [])
      (λ a. omega (arith, a.counted_from, a.numbered_from, a.counted_to, a.numbered_to))
      (λ i j d h l e.
      let a = get_or (ss ++ s ∷ []) i d in
      let b = get_or (ss ++ s ∷ []) j d in
      let limits : (a.to - 1 < 16) × (b.to - 1 < 16) = (omega (arith, a.counted_to, a.numbered_to), omega (arith, b.counted_to, b.numbered_to)) in
      switches_more i j d h l
      (omega (arith, a.counted_from, b.counted_from, a.counted_to, b.counted_to, a.numbered_to, b.numbered_to))
      (omega (arith, a.counted_from, b.counted_from, a.counted_to, b.counted_to, a.numbered_to, b.numbered_to))) in
      let e = length-append ss (s ∷ []) in
      omega arith

-- frames stay apart
pub frames_more : (ps : List ℕ) (p : ℕ) → FramesDiffer ps → has_frame p ps ≡ false → FramesDiffer (ps ++ p ∷ [])
frames_more ps p apart new =
    all_pairs_push (λ a b. a ≢ b) ps p apart (λ k d h e. let t = list_any_at (lasts p) ps k d h (eq-eqb (get_or ps k d) p e) in cc)

-- the same of a mode and a switch by their figures
pub room_for_mode : (ms : List Mode) (n : ℕ) → 1 ≤ n → n ≤ last_mode → ModesDiffer ms → has_mode n ms ≡ false → length ms < last_mode
room_for_mode ms n a b apart new =
    modes_room ms (record { number = n; speed = 0; power = 0; counted = a; numbered = b; slow = omega arith; weak = omega arith }) apart new

pub room_for_switch : (ss : List Switch) (a b : ℕ) → (1 ≤ a) × (a ≤ last_mode) → (1 ≤ b) × (b ≤ last_mode) → (a ≡ b → ⊥)
    → SwitchesDiffer ss → has_switch a b ss ≡ false → length ss < most_switches
room_for_switch ss a b (al, ah) (bl, bh) ne apart new =
    switches_room ss
    (record { from = a; to = b; time = 0; counted_from = al; numbered_from = ah; counted_to = bl; numbered_to = bh; apart = ne; short = omega arith })
    apart new

pub listed_mode : (n : ℕ) (ms : List Mode) (o : Option Mode) → is_some o ≡ true → o ≡ mode_of n ms → has_mode n ms ≡ true
listed_mode n ms o e f = sym (ap is_some f) ∙ e
