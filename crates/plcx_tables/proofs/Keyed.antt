-- The number of a key is that of the first place that has it.
use Rattle.std.proofs.Common.{◌≡◌, ℕ, suc, ◌+◌, Bool, true, false, cond, List, [], ◌∷◌, ◌++◌, length, map, Some, unwrap_or, refl, sym, ap, ap₂, ◌∙◌, arith}
use Rattle.std.specs.Prelude.{nat_eq, ◌&&◌, if◌then◌else◌}
use Rattle.std.specs.List.{flat_map, position_from}
use Rattle.std.specs.Str.{bytes_eq}
use Rattle.std.proofs.lemmas.List.{map-append, length-map}
use Rattle.plcx_types.specs.Name.{in_lower_case}
use Rattle.plcx_meaning.specs.Base.{Memory, AtEdge, AtOutput, same_memory}
use Rattle.plcx_meaning.specs.Diagram.{Port, ports, DiagramElement, has_edge}
use Rattle.plcx_meaning.proofs.Names.{folded_twice}
use Rattle.plcx_numbered.specs.Agreeing.{Cell, Pin, plain_memory}
use Rattle.plcx_numbered.specs.Numbers.{number_of, same_cell, same_pin, pins_of, element_cells}
use Rattle.plcx_tables.specs.declared.keys.Key.{Key}
use Rattle.plcx_tables.specs.Tables.{has_key}
use Rattle.plcx_tables.specs.Named.{memory_of, MemoriesTold}
use Rattle.plcx_tables.specs.Tables.{number_in}
use Rattle.plcx_tables.specs.Owned.{outputs_of, remembered, remembered_by, places_of}
use Rattle.plcx_tables.specs.Numbering.{outputs}

number_is : {A K : Type 0} (t : A → Bool) (same : K → K → Bool) (k : K) (g : A → K) → ((a : A) → t a ≡ same (g a) k) → (xs : List A) (i : ℕ)
    → unwrap_or (position_from (has_key t) i (map Some xs)) (i + length (map Some xs)) ≡ i + number_of same (map g xs) k
number_is t same k g is [] i = refl
number_is t same k g is (x ∷ xs) i = by (t x) (sym (is x)) (number_is t same k g is xs (i + 1))
  where
    by : (b : Bool) → same (g x) k ≡ b → unwrap_or (position_from (has_key t) (i + 1) (map Some xs)) (i + 1 + length (map Some xs)) ≡ i + 1 + number_of same (map g xs) k
        → unwrap_or (cond b (Some i) (position_from (has_key t) (i + 1) (map Some xs))) (i + length (map Some (x ∷ xs))) ≡ i + (if same (g x) k then 0 else number_of same (map g xs) k + 1)
    by true e h = (let z : i ≡ i + 0 = omega arith in z) ∙ ap (λ b. i + (if b then 0 else number_of same (map g xs) k + 1)) (sym e)
    by false e h =
        ap (unwrap_or (position_from (has_key t) (i + 1) (map Some xs))) (let z : i + suc (length (map Some xs)) ≡ i + 1 + length (map Some xs) = omega arith in z)
        ∙ h ∙ (let z : i + 1 + number_of same (map g xs) k ≡ i + (number_of same (map g xs) k + 1) = omega arith in z) ∙ ap (λ b. i + (if b then 0 else number_of same (map g xs) k + 1)) (sym e)

number_first : {A K : Type 0} (t : A → Bool) (same : K → K → Bool) (k : K) (g : A → K) → ((a : A) → t a ≡ same (g a) k) → (xs : List A)
    → unwrap_or (position_from (has_key t) 0 (map Some xs)) (length (map Some xs)) ≡ number_of same (map g xs) k
number_first t same k g is xs =
    ap (unwrap_or (position_from (has_key t) 0 (map Some xs))) (let z : length (map Some xs) ≡ 0 + length (map Some xs) = omega arith in z) ∙ number_is t same k g is xs 0 ∙ (let z : 0 + number_of same (map g xs) k ≡ number_of same (map g xs) k = omega arith in z)

-- ---- wires

-- outputs by their elements and pins
abbrev raw : List DiagramElement → List Pin
raw es = flat_map (λ (e : DiagramElement). map (λ (p : Port). (e.id, p.pin)) (ports e.kind)) es

-- the same made of each of them
made_of : {B : Type 0} (f : Pin → B) (g : ℕ → Port → B) → ((id : ℕ) (p : Port) → g id p ≡ f (id, p.pin)) → (es : List DiagramElement) → flat_map (λ (e : DiagramElement). map (g e.id) (ports e.kind)) es ≡ map f (raw es)
made_of f g same [] = refl
made_of f g same (e ∷ es) = ap₂ (λ a b. a ++ b) (own (ports e.kind)) (made_of f g same es) ∙ sym (map-append f (map (λ (p : Port). (e.id, p.pin)) (ports e.kind)) (raw es))
  where
    own : (os : List Port) → map (g e.id) os ≡ map f (map (λ (p : Port). (e.id, p.pin)) os)
    own [] = refl
    own (o ∷ os) = ap₂ (λ a b. a ∷ b) (same e.id o) (own os)

maps : {A B C : Type 0} (f : B → C) (g : A → B) (xs : List A) → map f (map g xs) ≡ map (λ x. f (g x)) xs
maps f g [] = refl
maps f g (x ∷ xs) = ap (λ ys. f (g x) ∷ ys) (maps f g xs)

pub wire_is : (es : List DiagramElement) (entries : List (Key × ℕ)) (count : ℕ) → MemoriesTold entries count (places_of (outputs es)) → (id : ℕ) (pin : List ℕ)
    → unwrap_or (number_in memory_of same_memory entries (AtOutput id pin)) count ≡ number_of same_pin (pins_of es) (id, pin)
wire_is es entries count told id pin =
    ap₂ unwrap_or (told.numbers (AtOutput id pin)) told.long
    ∙ number_first (λ m. same_memory m (AtOutput id pin)) same_memory (AtOutput id pin) (λ m. m) (λ m. refl) (outputs es)
    ∙ ap (λ ms. number_of same_memory (map (λ m. m) ms) (AtOutput id pin)) (made_of (λ z. AtOutput z.0 z.1) (λ i p. AtOutput i p.pin) (λ i p. refl) es)
    ∙ from (raw es)
    ∙ ap (λ zs. number_of same_pin zs (id, pin)) (sym (made_of (λ z. (z.0, in_lower_case z.1)) (λ i p. (i, in_lower_case p.pin)) (λ i p. refl) es))
  where
    from : (zs : List Pin) → number_of same_memory (map (λ m. m) (map (λ z. AtOutput z.0 z.1) zs)) (AtOutput id pin) ≡ number_of same_pin (map (λ (z : Pin). (z.0, in_lower_case z.1)) zs) (id, pin)
    from [] = refl
    from (z ∷ zs) = ap₂ (λ (b : Bool) (n : ℕ). if b then 0 else n + 1) (ap (λ n. nat_eq z.0 id && bytes_eq n (in_lower_case pin)) (sym (folded_twice z.1))) (from zs)

pub outputs_count : (es : List DiagramElement) → length (places_of (outputs es)) ≡ length (pins_of es)
outputs_count es =
    length-map (outputs es) Some ∙ ap length (made_of (λ z. AtOutput z.0 z.1) (λ i p. AtOutput i p.pin) (λ i p. refl) es) ∙ length-map (raw es) _
    ∙ sym (length-map (raw es) _) ∙ ap length (sym (made_of (λ z. (z.0, in_lower_case z.1)) (λ i p. (i, in_lower_case p.pin)) (λ i p. refl) es))

-- ---- memories

cells_are : (es : List DiagramElement) → flat_map element_cells es ≡ map (λ m. ([], plain_memory m)) (remembered es)
cells_are [] = refl
cells_are (e ∷ es) = ap₂ (λ a b. a ++ b) (by (has_edge e.kind)) (cells_are es) ∙ sym (map-append (λ m. ([], plain_memory m)) (remembered_by e) (remembered es))
  where
    fed : (ps : List Port) → map (λ (p : Port). let c : Cell = ([], AtOutput e.id (in_lower_case p.pin)) in c) ps ≡ map (λ m. ([], plain_memory m)) (outputs_of e.id ps)
    fed [] = refl
    fed (p ∷ ps) = ap (λ cs. ([], AtOutput e.id (in_lower_case p.pin)) ∷ cs) (fed ps)

    by : (b : Bool) → (let cs : List Cell = (if b then ([], AtEdge e.id) ∷ [] else []) ++ map (λ (p : Port). ([], AtOutput e.id (in_lower_case p.pin))) e.fed in cs) ≡ map (λ m. ([], plain_memory m)) ((if b then AtEdge e.id ∷ [] else []) ++ outputs_of e.id e.fed)
    by true = ap (λ cs. ([], AtEdge e.id) ∷ cs) (fed e.fed)
    by false = fed e.fed

pub cell_is : (es : List DiagramElement) (entries : List (Key × ℕ)) (count : ℕ) → MemoriesTold entries count (places_of (remembered es)) → (k : Memory)
    → unwrap_or (number_in memory_of same_memory entries k) count ≡ number_of same_cell (flat_map element_cells es) ([], k)
cell_is es entries count told k =
    ap₂ unwrap_or (told.numbers k) told.long
    ∙ number_first (λ m. same_memory m k) same_cell ([], k) (λ m. ([], plain_memory m)) (λ m. by m k) (remembered es)
    ∙ ap (λ cs. number_of same_cell cs ([], k)) (sym (cells_are es))
  where
    by : (m j : Memory) → same_memory m j ≡ same_cell ([], plain_memory m) ([], j)
    by (AtEdge i) (AtEdge n) = refl
    by (AtEdge i) (AtOutput n q) = refl
    by (AtOutput i p) (AtEdge n) = refl
    by (AtOutput i p) (AtOutput n q) = ap (λ x. nat_eq i n && bytes_eq x (in_lower_case q)) (sym (folded_twice p))
