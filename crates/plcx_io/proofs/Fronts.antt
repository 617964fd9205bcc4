-- A file as far as it has come in, and bytes as far as they have gone out.
use Rattle.std.proofs.Common.{◌≡◌, ◌≤◌, ◌<◌, ℕ, ◌+◌, ◌-◌, List, ◌++◌, length, take, drop, ap, arith, ◌∙◌, length-append, None, Some, IfSome}
use Rattle.std.proofs.Math.Seq.{take-add}
use Rattle.std.proofs.Math.Nat.{le_refl}
use Rattle.std.proofs.lemmas.List.{take_all, length-take}
use Rattle.std.proofs.lemmas.Slice.{between_to_end}
use Rattle.std.proofs.KnownBytes.{Appends-trans}
use Rattle.std.specs.Prelude.{⊤}
use Rattle.std.specs.declared.option.Option.{Option}
use Rattle.std.specs.Io.KnownBytes.{Appends}
use Rattle.plcx_io.specs.Told.{ReadsFrom, Tells}

-- the file begins with these bytes
abbrev pub Begins : Option (List ℕ) → List ℕ → Type 0
Begins None front = ⊤
Begins (Some bytes) front = front ≡ take (length front) bytes

-- one more piece came in
pub Begins-append : (file : Option (List ℕ)) (front piece : List ℕ) (from room : ℕ) → from ≡ length front → Begins file front → ReadsFrom file from room piece → Begins file (front ++ piece)
Begins-append None front piece from room here so_far read = tt
Begins-append (Some bytes) front piece from room here so_far read =
    let next : piece ≡ take (length piece) (drop (length front) bytes) = rw here at read.0 in
    rw (length-append front piece, take-add (length front) (length piece) bytes) cc

-- no piece came in, where one had room: nothing is left
pub Tells-from_end : (file : Option (List ℕ)) (front piece : List ℕ) (from room : ℕ) → from ≡ length front → 0 < room → length piece ≡ 0 → Begins file front → ReadsFrom file from room piece → Tells file front
Tells-from_end None front piece from room here some none so_far read = tt
Tells-from_end (Some bytes) front piece from room here some none so_far read =
    let short : length bytes ≤ length front = omega (arith, (read.1 some).0 none) in
    so_far ∙ take_all (length front) bytes short

-- a file that begins with too much is too long
pub Begins-long : (file : Option (List ℕ)) (front : List ℕ) (limit : ℕ) → Begins file front → limit < length front → IfSome file (λ bytes. limit < length bytes)
Begins-long None front limit so_far over = tt
Begins-long (Some bytes) front limit so_far over =
    let same : length front ≡ length (take (length front) bytes) = ap (λ (xs : List ℕ). length xs) so_far in
    omega (arith, same, length-take (length front) bytes)

-- one more piece went out
pub Appends-next : (old mid new : Option (List ℕ)) (bytes : List ℕ) (done count : ℕ) → Appends old mid (take done bytes) → Appends mid new (take count (take (length bytes - done) (drop done bytes))) → Appends old new (take (done + count) bytes)
Appends-next old mid new bytes done count first next =
    rw (take-add done count bytes) (Appends-trans old mid new _ _ first (rw (between_to_end bytes done (length bytes) (le_refl (length bytes))) at next))
