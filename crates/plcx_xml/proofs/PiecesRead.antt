-- Reading a value piece by piece.
use Rattle.std.proofs.Common.{◌≡◌, ◌<◌, ◌≤◌, ◌++◌, ◌+◌, ◌-◌, [], ◌∷◌, ℕ, suc, List, subst, ◌∙◌, ap, append_assoc, arith, None, Some}
use Rattle.std.specs.List.{flat_map}
use Rattle.plcx_xml.specs.Pieces.{Pieced}
use Rattle.plcx_xml.specs.Reads.{many, piece_at}
use Rattle.plcx_xml.proofs.ManyTimes.{many-none, many-some}

abbrev Found : Type 0
Found = List (List ℕ) × List ℕ

abbrev flat : List (List ℕ) → List ℕ
flat ps = flat_map (λ (p : List ℕ). p) ps

pub pieces-end : (value rest : List ℕ) (n : ℕ) (whole : Found) → None ≡ piece_at rest → Pieced value (many piece_at n rest) whole → Pieced value ([], rest) whole
pieces-end value rest n whole h p = subst (λ (f : Found). Pieced value f whole) (many-none piece_at n rest h) p

pub pieces-over : (value rest : List ℕ) (n t : ℕ) (whole : Found) → n ≤ t → Pieced value (many piece_at (n - t) rest) whole → Pieced value ([], rest) whole
pieces-over value rest n t whole h p =
    let none : n - t ≡ 0 = omega arith in
    subst (λ (m : ℕ). Pieced value (many piece_at m rest) whole) none p

pub pieces-turn : (value rest : List ℕ) (n t : ℕ) (whole : Found) (a : List ℕ × List ℕ) → t < n → Some a ≡ piece_at rest → Pieced value (many piece_at (n - t) rest) whole → Pieced (value ++ a.0) (many piece_at (n - (t + 1)) a.1) whole
pieces-turn value rest n t whole a l h p =
    let left : n - t ≡ suc (n - (t + 1)) = omega arith in
    let found : many piece_at (n - t) rest ≡ (a.0 ∷ (many piece_at (n - (t + 1)) a.1).0, (many piece_at (n - (t + 1)) a.1).1) = ap (λ (m : ℕ). many piece_at m rest) left ∙ many-some piece_at (n - (t + 1)) rest a h in
    let q = subst (λ (f : Found). Pieced value f whole) found p in
    record {
      value_is = append_assoc value a.0 (flat (many piece_at (n - (t + 1)) a.1).0) ∙ q.value_is;
      rest_is = q.rest_is;
    }
