-- The file as it is written has the bytes of its pieces.
use Rattle.std.proofs.Common.{◌≡◌, ◌+◌, ℕ, zero, suc, List, [], ◌∷◌, ◌++◌, map, refl, ap, sym, arith, ◌∙◌, append_assoc, append-nil}
use Rattle.std.specs.Prelude.{codes}
use Rattle.std.specs.List.{flat_map, range_with_len}
use Rattle.std.proofs.lemmas.List.Concat.{flat_map-append}
use Rattle.std.specs.Fmt.{decimal}
use Rattle.plcx_bench_project.specs.Bench.{variable_name}
use Rattle.plcx_bench_file.specs.Markup.{Piece, in_a_row}
use Rattle.plcx_bench_file.specs.File.{network, networks, declaration, declarations, file, bench_bytes}
use Rattle.plcx_bench_file.specs.Text.{declaration_text, variable_text, number_text, addition_text, output_text, network_text, head_text, middle_text, tail_text, file_text}

row-bytes : (f : ℕ → Piece) (g : ℕ → List ℕ) → ((i : ℕ) → (f i).bytes ≡ g i) → (xs : List ℕ) → (in_a_row (map f xs)).bytes ≡ flat_map g xs
row-bytes f g h [] = refl
row-bytes f g h (x ∷ xs) = rw (h x, row-bytes f g h xs) refl

regroup : (d a b c e : List ℕ) → (((d ++ a) ++ b) ++ c) ++ e ≡ d ++ (a ++ (b ++ (c ++ e)))
regroup d a b c e = simp append_assoc

declaration-bytes : (i : ℕ) → (declaration (variable_name i)).bytes ≡ declaration_text i
unfolding declaration_text
declaration-bytes i = ap (λ (xs : List ℕ). codes "<variable name=\"V" ++ xs) (regroup (decimal i) (34 ∷ []) [] (62 ∷ []) (codes "<type><DINT/></type></variable>"))

network-bytes : (n i : ℕ) → (network n i).bytes ≡ network_text n i
unfolding variable_text number_text addition_text output_text network_text
network-bytes n i = simp append_assoc

file-bytes : (variables body : Piece) → (file variables body).bytes ≡ head_text ++ (variables.bytes ++ (middle_text ++ (body.bytes ++ tail_text)))
file-bytes variables body = simp append_assoc

pub bench-bytes : (n : ℕ) → bench_bytes n ≡ file_text n
bench-bytes n =
    let vs = row-bytes (λ i. declaration (variable_name i)) declaration_text declaration-bytes (range_with_len 0 n) in
    let ns = row-bytes (network n) (network_text n) (network-bytes n) (range_with_len 0 n) in
    file-bytes (declarations n) (networks n)
    ∙ (ap (λ (xs : List ℕ). head_text ++ (xs ++ (middle_text ++ ((networks n).bytes ++ tail_text)))) vs
    ∙ ap (λ (xs : List ℕ). head_text ++ (flat_map declaration_text (range_with_len 0 n) ++ (middle_text ++ (xs ++ tail_text)))) ns)

-- texts put behind one another
pub in_order : (a b c d x y z : List ℕ) → x ≡ a ++ b → y ≡ x ++ c → z ≡ y ++ d → z ≡ a ++ (b ++ (c ++ d))
in_order a b c d x y z h g k = rw (k, g, h) (simp append_assoc)

range_from : (a i : ℕ) → range_with_len a (i + 1) ≡ range_with_len a i ++ ((a + i) ∷ [])
range_from a zero = let e : a ≡ a + 0 = omega arith in ap (λ (x : ℕ). x ∷ []) e
range_from a (suc i) =
    let e : suc i + 1 ≡ suc (i + 1) = omega arith in
    let k : a + 1 + i ≡ a + suc i = omega arith in
    rw e (ap (λ (xs : List ℕ). a ∷ xs) (range_from (a + 1) i ∙ ap (λ (x : ℕ). range_with_len (a + 1) i ++ (x ∷ [])) k))

range_more : (i : ℕ) → range_with_len 0 (i + 1) ≡ range_with_len 0 i ++ (i ∷ [])
range_more i = let e : 0 + i ≡ i = omega arith in range_from 0 i ∙ ap (λ (x : ℕ). range_with_len 0 i ++ (x ∷ [])) e

pub row-more : (f : ℕ → List ℕ) (i : ℕ) (xs ys : List ℕ) → xs ≡ flat_map f (range_with_len 0 i) → ys ≡ xs ++ f i → ys ≡ flat_map f (range_with_len 0 (i + 1))
row-more f i xs ys h g =
    rw (g, h) (sym (ap (flat_map f) (range_more i) ∙ (flat_map-append f (range_with_len 0 i) (i ∷ []) ∙ ap (λ (zs : List ℕ). flat_map f (range_with_len 0 i) ++ zs) (append-nil (f i)))))

-- the parts of the file put behind one another
pub in_file : (n : ℕ) (d b x0 x1 x2 x3 x4 x5 : List ℕ) → x0 ≡ [] → x1 ≡ x0 ++ head_text → x2 ≡ x1 ++ d → x3 ≡ x2 ++ middle_text → x4 ≡ x3 ++ b → x5 ≡ x4 ++ tail_text → d ≡ flat_map declaration_text (range_with_len 0 n) → b ≡ flat_map (network_text n) (range_with_len 0 n) → x5 ≡ bench_bytes n
in_file n d b x0 x1 x2 x3 x4 x5 h0 h1 h2 h3 h4 h5 hd hb =
    let e2 : x2 ≡ head_text ++ d = h2 ∙ ap (λ (xs : List ℕ). xs ++ d) (h1 ∙ ap (λ (xs : List ℕ). xs ++ head_text) h0) in
    let e5 : x5 ≡ (((head_text ++ d) ++ middle_text) ++ b) ++ tail_text = h5 ∙ ap (λ (xs : List ℕ). xs ++ tail_text) (h4 ∙ ap (λ (xs : List ℕ). xs ++ b) (h3 ∙ ap (λ (xs : List ℕ). xs ++ middle_text) e2)) in
    e5 ∙ (regroup head_text d middle_text b tail_text
    ∙ (ap (λ (xs : List ℕ). head_text ++ (xs ++ (middle_text ++ (b ++ tail_text)))) hd
    ∙ (ap (λ (xs : List ℕ). head_text ++ (flat_map declaration_text (range_with_len 0 n) ++ (middle_text ++ (xs ++ tail_text)))) hb ∙ sym (bench-bytes n))))
