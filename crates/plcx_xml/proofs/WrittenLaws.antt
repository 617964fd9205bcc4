-- References, and a value that is written with them: what is read is what is spelled.
use Rattle.std.proofs.Common.{◌≡◌, ◌<◌, ◌≤◌, ℕ, zero, suc, ◌+◌, Bool, true, false, List, [], ◌∷◌, ◌++◌, length, take, refl, ap, sym, subst, ◌∙◌, ◌⊎◌, inl, inr, arith, cond, None, Some, append_assoc, length-append, nat_eq}
use Rattle.std.specs.declared.option.Option.{Option}
use Rattle.std.specs.Option.{option_map}
use Rattle.std.specs.Char.{encode_utf8}
use Rattle.std.specs.List.{flat_map, list_all, prefix_len}
use Rattle.std.proofs.lemmas.Bool.{eqb-true}
use Rattle.std.proofs.lemmas.List.{take_at, drop_at, take_all, append-nil}
use Rattle.plcx_xml.specs.Character.{is_plain, is_named}
use Rattle.plcx_xml.specs.Reference.{character_named}
use Rattle.plcx_xml.specs.Grammar.{Stops, SpellsReference, SpellsPiece, Plain, Named, SpellsPieces, SpellsValue}
use Rattle.plcx_xml.specs.Reading.{◌>>=◌, starts, run_at, byte_at, reference_at}
use Rattle.plcx_xml.specs.Reads.{piece_at, value_of, joined_pieces, many, many_then}
use Rattle.plcx_xml.proofs.ManyTimes.{many-none, many-some}
use Rattle.plcx_xml.proofs.Runs.{run-sound, run-again, prefix_len-again, run-heads, starts-sound, starts-again, starts-not, heads_append}
use Rattle.plcx_xml.proofs.Steps.{bind_some, guard_some, some_inj, byte-sound, byte-again, byte-not, heads-long, long-heads}

pub map_some : {A B : Type 0} (f : A → B) (o : Option A) (b : B) → option_map f o ≡ Some b → (a : A) × (o ≡ Some a) × (f a ≡ b)
map_some f None b h = let no : ⊥ = cc in absurd no
map_some f (Some a) b h = (a, refl, some_inj (f a) b h)

pub reference-sound : (bytes : List ℕ) (c : ℕ) (rest : List ℕ) → reference_at bytes ≡ Some (c, rest) → (text : List ℕ) × SpellsReference c text × (bytes ≡ text ++ rest)
unfolding reference_at
reference-sound bytes c rest h =
    let f3 : List ℕ → ℕ → Option (ℕ × List ℕ) = λ after named. Some (named, after) in
    let f2 : List ℕ → List ℕ → Option (ℕ × List ℕ) = λ inside after. character_named (run_at is_named inside).0 >>= f3 after in
    let f1 : List ℕ → Option (ℕ × List ℕ) = λ inside. byte_at 59 (run_at is_named inside).1 >>= f2 inside in
    let a = bind_some (byte_at 38 bytes) f1 (c, rest) h in
    let b = bind_some (byte_at 59 (run_at is_named a.0).1) (f2 a.0) (c, rest) a.2 in
    let d = bind_some (character_named (run_at is_named a.0).0) (f3 b.0) (c, rest) b.2 in
    let both : ◌≡◌ {A = ℕ × List ℕ} (d.0, b.0) (c, rest) = some_inj (d.0, b.0) (c, rest) d.2 in
    let name = (run_at is_named a.0).0 in
    let run = run-sound is_named a.0 in
    let behind : a.0 ≡ name ++ (59 ∷ b.0) = run.2 ∙ ap (λ (xs : List ℕ). name ++ xs) (byte-sound 59 (run_at is_named a.0).1 b.0 b.1) in
    let whole : bytes ≡ (38 ∷ (name ++ (59 ∷ []))) ++ b.0 = byte-sound 38 bytes a.0 a.1 ∙ (ap (λ (xs : List ℕ). 38 ∷ xs) behind ∙ ap (λ (xs : List ℕ). 38 ∷ xs) (sym (append_assoc name (59 ∷ []) b.0))) in
    let found : (text : List ℕ) × SpellsReference d.0 text × (bytes ≡ text ++ b.0) = (38 ∷ (name ++ (59 ∷ [])), record { name = name; plain = run.0; named = d.1; all = refl }, whole) in
    subst (λ (x : ℕ × List ℕ). (text : List ℕ) × SpellsReference x.0 text × (bytes ≡ text ++ x.1)) both found

pub reference-again : (c : ℕ) (text rest : List ℕ) → SpellsReference c text → reference_at (text ++ rest) ≡ Some (c, rest)
unfolding reference_at
reference-again c text rest s =
    let whole : text ++ rest ≡ 38 ∷ (s.name ++ (59 ∷ rest)) = ap (λ (xs : List ℕ). xs ++ rest) s.all ∙ ap (λ (xs : List ℕ). 38 ∷ xs) (append_assoc s.name (59 ∷ []) rest) in
    rw (
      whole,
      byte-again 38 (s.name ++ (59 ∷ rest)),
      prefix_len-again is_named s.name (59 ∷ rest) s.plain refl,
      take_at s.name (59 ∷ rest) (length s.name) refl,
      drop_at s.name (59 ∷ rest) (length s.name) refl,
      byte-again 59 rest,
      s.named,
    ) refl

pub reference-not : (bytes : List ℕ) → Stops (λ x. nat_eq x 38) bytes → reference_at bytes ≡ None
unfolding reference_at
reference-not bytes h = rw (byte-not 38 bytes h) refl

reference-ampersand : (c : ℕ) (text rest : List ℕ) → SpellsReference c text → Stops is_plain (text ++ rest)
reference-ampersand c text rest s = subst (λ (xs : List ℕ). Stops is_plain (xs ++ rest)) (sym s.all) refl

piece-read : {A : Type 0} (b : Bool) (x y : Option A) (z : A) → cond b x y ≡ Some z → ((b ≡ true) × (x ≡ Some z)) ⊎ (y ≡ Some z)
piece-read true x y z h = inl (refl, h)
piece-read false x y z h = inr h

abbrev shown : ℕ × List ℕ → List ℕ × List ℕ
shown p = (encode_utf8 p.0, p.1)

piece-sound : (bytes : List ℕ) (p : List ℕ × List ℕ) → piece_at bytes ≡ Some p → (front : List ℕ) × (bytes ≡ front ++ p.1) × SpellsPiece p.0 front p.1
piece-sound bytes p h = of (piece-read (starts is_plain bytes) (Some (run_at is_plain bytes)) (option_map shown (reference_at bytes)) p h)
  where
    of : ((starts is_plain bytes ≡ true) × (Some (run_at is_plain bytes) ≡ Some p)) ⊎ (option_map shown (reference_at bytes) ≡ Some p) → (front : List ℕ) × (bytes ≡ front ++ p.1) × SpellsPiece p.0 front p.1
    of (inl e) =
        let run = run-sound is_plain bytes in
        let long = heads-long is_plain (run_at is_plain bytes).0 (run-heads is_plain bytes (starts-sound is_plain bytes e.0)) in
        let found : (front : List ℕ) × (bytes ≡ front ++ (run_at is_plain bytes).1) × SpellsPiece (run_at is_plain bytes).0 front (run_at is_plain bytes).1 = ((run_at is_plain bytes).0, run.2, Plain refl long run.0 run.1) in
        subst (λ (q : List ℕ × List ℕ). (front : List ℕ) × (bytes ≡ front ++ q.1) × SpellsPiece q.0 front q.1) (some_inj (run_at is_plain bytes) p e.1) found
    of (inr e) =
        let m = map_some shown (reference_at bytes) p e in
        let r = reference-sound bytes m.0.0 m.0.1 m.1 in
        let found : (front : List ℕ) × (bytes ≡ front ++ m.0.1) × SpellsPiece (encode_utf8 m.0.0) front m.0.1 = (r.0, r.2, Named m.0.0 r.1 refl) in
        subst (λ (q : List ℕ × List ℕ). (front : List ℕ) × (bytes ≡ front ++ q.1) × SpellsPiece q.0 front q.1) m.2 found

piece-again : (piece front rest : List ℕ) → SpellsPiece piece front rest → piece_at (front ++ rest) ≡ Some (piece, rest)
piece-again piece front rest (Plain same long plain stops) =
    let begins : starts is_plain (front ++ rest) ≡ true = starts-again is_plain (front ++ rest) (heads_append is_plain front rest (long-heads is_plain front long plain)) in
    rw (begins, run-again is_plain front rest plain stops, same) refl
piece-again piece front rest (Named c spelled same) =
    rw (starts-not is_plain (front ++ rest) (reference-ampersand c front rest spelled), reference-again c front rest spelled, same) refl

piece-long : (piece front rest : List ℕ) → SpellsPiece piece front rest → 0 < length front
piece-long piece front rest (Plain same long plain stops) = long
piece-long piece front rest (Named c spelled same) = let e : length front ≡ length (38 ∷ (spelled.name ++ (59 ∷ []))) = ap (λ (xs : List ℕ). length xs) spelled.all in omega arith

more-pieces : (n : ℕ) (bytes : List ℕ) (o : Option (List ℕ × List ℕ)) → piece_at bytes ≡ o → ((rest : List ℕ) → (many piece_at n rest).1 ≡ [] → SpellsPieces (many piece_at n rest).0 rest) → (many_then o bytes (many piece_at n)).1 ≡ [] → SpellsPieces (many_then o bytes (many piece_at n)).0 bytes
more-pieces n bytes None e ih h = h
more-pieces n bytes (Some p) e ih h = let s = piece-sound bytes p e in (s.0, p.1, s.1, s.2, ih p.1 h)

pieces-sound : (n : ℕ) (bytes : List ℕ) → (many piece_at n bytes).1 ≡ [] → SpellsPieces (many piece_at n bytes).0 bytes
pieces-sound zero bytes h = h
pieces-sound (suc n) bytes h = more-pieces n bytes (piece_at bytes) refl (λ rest k. pieces-sound n rest k) h

no-piece : None ≡ piece_at []
no-piece = rw (reference-not [] tt) refl

pieces-again : (n : ℕ) (pieces : List (List ℕ)) (bytes : List ℕ) → SpellsPieces pieces bytes → length bytes ≤ n → many piece_at n bytes ≡ (pieces, [])
pieces-again n [] bytes s l = rw s (many-none piece_at n [] no-piece)
pieces-again zero (p ∷ ps) bytes s l =
    let some = piece-long p s.0 s.1 s.3 in
    let all : length bytes ≡ length s.0 + length s.1 = ap (λ (xs : List ℕ). length xs) s.2 ∙ length-append s.0 s.1 in
    absurd (omega arith)
pieces-again (suc n) (p ∷ ps) bytes s l =
    let some = piece-long p s.0 s.1 s.3 in
    let all : length bytes ≡ length s.0 + length s.1 = ap (λ (xs : List ℕ). length xs) s.2 ∙ length-append s.0 s.1 in
    let within : length s.1 ≤ n = omega arith in
    let first : Some (p, s.1) ≡ piece_at bytes = sym (ap piece_at s.2 ∙ piece-again p s.0 s.1 s.3) in
    many-some piece_at n bytes (p, s.1) first ∙ ap (λ (r : List (List ℕ) × List ℕ). let q : List (List ℕ) × List ℕ = (p ∷ r.0, r.1) in q) (pieces-again n ps s.1 s.4 within)

nothing : (xs : List ℕ) → nat_eq (length xs) 0 ≡ true → xs ≡ []
nothing [] h = refl
nothing (x ∷ xs) h = let e = eqb-true (length (x ∷ xs)) 0 h in absurd (omega arith)

pub written-sound : (written value : List ℕ) → value_of written ≡ Some value → SpellsValue value written
written-sound written value h =
    let found = many piece_at (length written) written in
    let g = guard_some (nat_eq (length found.1) 0) (Some (flat_map (λ (p : List ℕ). p) found.0)) value h in
    (found.0, sym (some_inj (flat_map (λ (p : List ℕ). p) found.0) value g.1), pieces-sound (length written) written (nothing found.1 g.0))

pub written-again : (written value : List ℕ) → SpellsValue value written → value_of written ≡ Some value
written-again written value s = ap joined_pieces (pieces-again (length written) s.0 written s.2 (omega arith)) ∙ ap (λ (xs : List ℕ). Some xs) (sym s.1)

-- a text without `&` is longest as it is
no_and : (xs : List ℕ) → prefix_len is_plain xs ≡ length xs → list_all is_plain xs ≡ true
no_and xs h = subst (λ (ys : List ℕ). list_all is_plain ys ≡ true) (ap (λ (n : ℕ). take n xs) h ∙ take_all (length xs) xs (omega arith)) (run-sound is_plain xs).0

as_it_is : (xs : List ℕ) → prefix_len is_plain xs ≡ length xs → SpellsValue xs xs
as_it_is [] h = ([], refl, refl)
as_it_is (x ∷ xs) h = ((x ∷ xs) ∷ [], sym (append-nil (x ∷ xs)), ((x ∷ xs), [], sym (append-nil (x ∷ xs)), Plain refl (omega arith) (no_and (x ∷ xs) h) tt, refl))

-- a value without `&` is written as it is
pub plain_written : (written : List ℕ) → prefix_len is_plain written ≡ length written → value_of written ≡ Some written
plain_written written h = written-again written written (as_it_is written h)
