-- Retained lines as they are read: what is read is what they say, and the first that can't be read is the first that is wrong.
use Rattle.std.proofs.Common.{Bor, get_or, ◌≡◌, ◌<◌, ◌+◌, ◌∷◌, ◌++◌, ◌∙◌, ℕ, zero, suc, Bool, true, false, true≢false, List, [], Option, Some, None, cond, map, take, drop, set, length, refl, sym, ap, ap₂, subst, arith, zero-add}
use Rattle.std.specs.Prelude.{slice_get, not, ◌||◌, ◌==◌, codes, if◌then◌else◌}
use Rattle.std.specs.Option.{option_map, option_and_then}
use Rattle.std.specs.List.{position, position_from, list_any, filter_map, cons_option}
use Rattle.std.specs.Str.{bytes_eq}
use Rattle.std.proofs.lemmas.Bool.{and_parts, and_from, or_parts, or_from, not-true, not_from_false, eqb-true}
use Rattle.std.proofs.lemmas.Iterator.Adapters.{position_from-zero}
use Rattle.std.proofs.lemmas.List.{take-append-drop, take_at, take_more, length-map, get_or-map, get_or_default}
use Rattle.std.proofs.lemmas.Option.{same_Some, slice_get-map, option_and_then_some}
use Rattle.std.proofs.lemmas.Slice.Eq.{bytes_eq-Decides}
use Rattle.plcx_types.specs.Name.{in_lower_case}
use Rattle.plcx_types.specs.ReadLiteral.{value_of}
use Rattle.plcx_types.specs.Value.{Value}
use Rattle.plcx_types.proofs.Literals.{value_reads, value_is}
use Rattle.plcx_meaning.specs.Base.{Path, same_path}
use Rattle.plcx_meaning.specs.Layout.{all_apart}
use Rattle.plcx_state.specs.declared.layout.Leaf.{Leaf}
use Rattle.plcx_state.specs.declared.lines.Reading.{Reading}
use Rattle.plcx_state.specs.Layouts.{meant_path, is_kept}
use Rattle.plcx_state.specs.Retains.{Pairwise, kept_of, all_kept}
use Rattle.plcx_state.specs.Lines.{Said, IsLine, AreLines, IsFirstWrong, said_at, kept_by}
use Rattle.plcx_state.specs.Tables.{path_text, printed_at, HasPlainNames, IsTold}
use Rattle.plcx_state.specs.ReadLines.{Parts, parts, parts_at, split, behind_word, line_parts, reading, read_literal_for, read_number, read_parts, read_line, is_free, noted, said_of, line_said, lines_said, drafted, Goes}
use Rattle.plcx_state.proofs.Paths.{same_if}
use Rattle.plcx_state.proofs.Pairing.{pairs_push}
use Rattle.plcx_state.proofs.Eaches.{each_get}
use Rattle.plcx_state.proofs.Dots.{Lacks, dotted_lacks, spelled_lacks}
use Rattle.plcx_state.proofs.Places.{paths, swapped, apart_from, found_passes, printed_found, printed_is}

-- the first comma
comma_behind : (path literal : List ℕ) (k : ℕ) → Lacks 44 path → position_from (λ b. b == 44) k (path ++ 44 ∷ literal) ≡ Some (k + length path)
comma_behind [] literal k h = let z : k ≡ k + 0 = omega arith in ap Some z
comma_behind (b ∷ path) literal k h =
    let lacks = or_parts (b == 44) (list_any (λ c. c == 44) path) h in
    let z : k + 1 + length path ≡ k + suc (length path) = omega arith in
    ap (λ t. cond t (Some k) (position_from (λ c. c == 44) (k + 1) (path ++ 44 ∷ literal))) lacks.0 ∙ comma_behind path literal (k + 1) lacks.1 ∙ ap Some z

split_found : (path literal : List ℕ) → Lacks 44 path → split (path ++ 44 ∷ literal) ≡ Some (parts path literal)
unfolding split
split_found path literal h =
    ap (option_map (parts_at (path ++ 44 ∷ literal))) (position_from-zero (λ b. b == 44) (path ++ 44 ∷ literal) ∙ comma_behind path literal 0 h ∙ ap Some (zero-add (length path)))
    ∙ ap Some (ap₂ parts (take_at path (44 ∷ literal) (length path) refl) (behind path))
  where
    behind : (xs : List ℕ) → drop (length xs + 1) (xs ++ 44 ∷ literal) ≡ literal
    behind [] = refl
    behind (x ∷ xs) = let z : suc (length xs) + 1 ≡ suc (length xs + 1) = omega arith in ap (λ k. drop k (x ∷ (xs ++ 44 ∷ literal))) z ∙ behind xs

around : {X : Type 0} (xs : List X) (i : ℕ) (x : X) → slice_get xs i ≡ Some x → xs ≡ take i xs ++ x ∷ drop (i + 1) xs
around [] i x e = absurd (cc)
around (y ∷ xs) zero x e = ap (λ z. z ∷ xs) (same_Some y x e)
around (y ∷ xs) (suc i) x e = let z : suc (i + 1) ≡ suc i + 1 = omega arith in ap (λ zs. y ∷ zs) (around xs i x e) ∙ ap (λ k. y ∷ (take i xs ++ x ∷ drop k (y ∷ xs))) z

mapped : {A B : Type 0} (f : A → B) (o : Option A) (y : B) → option_map f o ≡ Some y → (x : A) × (o ≡ Some x) × (f x ≡ y)
mapped f None y e = absurd (cc)
mapped f (Some x) y e = (x, refl, same_Some (f x) y e)

split_is : (text : List ℕ) (p : Parts) → split text ≡ Some p → text ≡ p.path ++ 44 ∷ p.literal
unfolding split
split_is text p e =
    let m = mapped (parts_at text) (position (λ b. b == 44) text) p e in
    let f = found_passes (λ b. b == 44) text 0 m.0 (sym (position_from-zero (λ b. b == 44) text) ∙ m.1) in
    let number : f.0 ≡ m.0 = sym (zero-add f.0) ∙ sym f.2 in
    let comma : f.1 ≡ 44 = eqb-true f.1 44 f.4 in
    around text f.0 f.1 f.3
    ∙ ap₂ (λ n c. take n text ++ c ∷ drop (n + 1) text) number comma
    ∙ ap (λ (q : Parts). q.path ++ 44 ∷ q.literal) m.2

behind_is : (word line rest : List ℕ) → behind_word word line ≡ Some rest → line ≡ word ++ rest
behind_is word line rest e = by (bytes_eq (take (length word) line) word) refl e
  where
    by : (b : Bool) → bytes_eq (take (length word) line) word ≡ b → (if b then Some (drop (length word) line) else None) ≡ Some rest → line ≡ word ++ rest
    by true is h =
        sym (take-append-drop (length word) line) ∙ ap₂ (λ a b. a ++ b) ((bytes_eq-Decides (take (length word) line) word).0 is) (same_Some (drop (length word) line) rest h)
    by false is h = absurd (cc)

line_split : (rest : List ℕ) → line_parts (codes "retain," ++ rest) ≡ split rest
unfolding line_parts
line_split rest = refl

line_is : (line : List ℕ) (p : Parts) → line_parts line ≡ Some p → line ≡ codes "retain," ++ (p.path ++ 44 ∷ p.literal)
unfolding line_parts
line_is line p e = option_and_then_some split (behind_word (codes "retain,") line) p e
    (λ rest is found. behind_is (codes "retain,") line rest is ∙ ap (λ t. codes "retain," ++ t) (split_is rest p found))

-- what a line says is read
module _ (leaves : List Leaf) (told : IsTold leaves) where
  pub complete : (line : List ℕ) (said : Said) (h : IsLine leaves line said) → read_line leaves line ≡ Some (reading h.number said.value)
  unfolding read_line
  complete line said h =
      ap (λ l. option_and_then (read_parts leaves) (line_parts l)) h.line_is
      ∙ ap (option_and_then (read_parts leaves)) (line_split (h.path ++ 44 ∷ h.literal) ∙ split_found h.path h.literal lacks)
      ∙ ap (option_and_then (read_number leaves h.literal)) (ap (λ t. printed_at t leaves) h.path_is ∙ printed_found leaves told h.number h.leaf h.there)
      ∙ ap (option_and_then (read_literal_for h.literal h.number)) h.there
      ∙ ap (λ b. if b then option_map (reading h.number) (value_of h.leaf.ty h.literal) else None) h.kept
      ∙ ap (option_map (reading h.number)) (value_reads h.leaf.ty h.literal said.value h.stands)
    where
      lacks : Lacks 44 h.path
      lacks = spelled_lacks h.path (subst (Lacks 44) (sym h.path_is) (dotted_lacks h.leaf.path (each_get HasPlainNames leaves h.number h.leaf h.there told.plain)))

  pub said_complete : (line : List ℕ) (said : Said) → IsLine leaves line said → line_said leaves line ≡ Some said
  said_complete line said h =
      ap (option_and_then (said_of leaves)) (complete line said h)
      ∙ ap (option_map (λ (leaf : Leaf). record { path = meant_path leaf.path; value = said.value })) h.there
      ∙ ap (λ (p : Path). Some (record { path = p; value = said.value })) (sym h.same)

  -- lines say what is read of them
  pub lines_are : (lines : List (List ℕ)) (saids : List Said) → Pairwise (IsLine leaves) lines saids → saids ≡ lines_said leaves lines
  lines_are [] [] h = refl
  lines_are [] (s ∷ saids) h = absurd h
  lines_are (l ∷ lines) [] h = absurd h
  lines_are (l ∷ lines) (s ∷ saids) h =
      ap (λ rest. s ∷ rest) (lines_are lines saids h.1) ∙ ap (λ o. cons_option o (lines_said leaves lines)) (sym (said_complete l s h.0))

  -- a leaf of a number, with the value that a line says of it
  pub said_with : Leaf → Value → Said
  said_with leaf v = record { path = meant_path leaf.path; value = v }

-- what is read is what a line says
pub record ReadOf (leaves : List Leaf) (line : List ℕ) (r : Reading) : Type 0 where
  leaf : Leaf
  there : slice_get leaves r.leaf ≡ Some leaf
  says : IsLine leaves line (record { path = meant_path leaf.path; value = r.value })

pub sound : (leaves : List Leaf) (line : List ℕ) (r : Reading) → read_line leaves line ≡ Some r → ReadOf leaves line r
unfolding read_line
sound leaves line r e = option_and_then_some (read_parts leaves) (line_parts line) r e (λ p parted found. option_and_then_some (read_number leaves p.literal) (printed_at (in_lower_case p.path) leaves) r found (λ n number from. option_and_then_some (read_literal_for p.literal n) (slice_get leaves n) r from (λ leaf there value. by p parted n number leaf there (is_kept leaf) refl value)))
  where
    by : (p : Parts) → line_parts line ≡ Some p → (n : ℕ) → printed_at (in_lower_case p.path) leaves ≡ Some n → (leaf : Leaf) → slice_get leaves n ≡ Some leaf → (b : Bool) → is_kept leaf ≡ b
        → (if b then option_map (reading n) (value_of leaf.ty p.literal) else None) ≡ Some r → ReadOf leaves line r
    by p parted n number leaf there true kept value =
        let m = mapped (reading n) (value_of leaf.ty p.literal) r value in
        let named = printed_is leaves (in_lower_case p.path) n number in
        let same : named.0 ≡ leaf = same_Some named.0 leaf (sym named.1 ∙ there) in
        let is_number : n ≡ r.leaf = ap (λ (q : Reading). q.leaf) m.2 in
        let is_value : m.0 ≡ r.value = ap (λ (q : Reading). q.value) m.2 in
        record {
          leaf = leaf;
          there = ap (slice_get leaves) (sym is_number) ∙ there;
          says = record {
            leaf = leaf;
            number = n;
            there = there;
            kept = kept;
            path = p.path;
            literal = p.literal;
            line_is = line_is line p parted;
            path_is = named.2 ∙ ap path_text same;
            same = refl;
            stands = value_is leaf.ty p.literal r.value (m.1 ∙ ap Some is_value);
          };
        }
    by p parted n number leaf there false kept value = absurd (cc)

-- one said thing more
paths_said : List Said → List Path
paths_said saids = map (λ (said : Said). said.path) saids

any_push : {X : Type 0} (t : X → Bool) (xs : List X) (y : X) → list_any t xs ≡ false → t y ≡ false → list_any t (xs ++ y ∷ []) ≡ false
any_push t [] y h k = or_from (t y) false k refl
any_push t (x ∷ xs) y h k = let p = or_parts (t x) (list_any t xs) h in or_from (t x) (list_any t (xs ++ y ∷ [])) p.0 (any_push t xs y p.1 k)

any_last : {X : Type 0} (t : X → Bool) (xs : List X) (y : X) → list_any t (xs ++ y ∷ []) ≡ false → t y ≡ false
any_last t [] y h = (or_parts (t y) false h).0
any_last t (x ∷ xs) y h = any_last t xs y (or_parts (t x) (list_any t (xs ++ y ∷ [])) h).1

apart_push : (ps : List Path) (p : Path) → all_apart ps ≡ true → list_any (same_path p) ps ≡ false → all_apart (ps ++ p ∷ []) ≡ true
apart_push [] p h k = refl
apart_push (q ∷ ps) p h k =
    let a = and_parts (not (list_any (same_path q) ps)) (all_apart ps) h in
    let b = or_parts (same_path p q) (list_any (same_path p) ps) k in
    and_from (not (list_any (same_path q) (ps ++ p ∷ []))) (all_apart (ps ++ p ∷ [])) (not_from_false _ (any_push (same_path q) ps p (not-true _ a.0) (swapped p q b.0))) (apart_push ps p a.1 b.1)

apart_last : (ps : List Path) (p : Path) → all_apart (ps ++ p ∷ []) ≡ true → list_any (same_path p) ps ≡ false
apart_last [] p h = refl
apart_last (q ∷ ps) p h =
    let a = and_parts (not (list_any (same_path q) (ps ++ p ∷ []))) (all_apart (ps ++ p ∷ [])) h in
    or_from (same_path p q) (list_any (same_path p) ps) (swapped q p (any_last (same_path q) ps p (not-true _ a.0))) (apart_last ps p a.1)

map_push : {A B : Type 0} (f : A → B) (xs : List A) (x : A) → map f (xs ++ x ∷ []) ≡ map f xs ++ f x ∷ []
map_push f [] x = refl
map_push f (y ∷ xs) x = ap (λ r. f y ∷ r) (map_push f xs x)

-- nothing is said of a path that is not among those of which something is said
unsaid : (saids : List Said) (p : Path) → list_any (same_path p) (map (λ (said : Said). said.path) saids) ≡ false → said_at saids p ≡ None
unsaid [] p h = refl
unsaid (s ∷ saids) p h =
    let a = or_parts (same_path p s.path) (list_any (same_path p) (map (λ (said : Said). said.path) saids)) h in
    ap (λ b. if b then Some s.value else said_at saids p) a.0 ∙ unsaid saids p a.1

not_said : (saids : List Said) (p : Path) → said_at saids p ≡ None → list_any (same_path p) (map (λ (said : Said). said.path) saids) ≡ false
not_said [] p h = refl
not_said (s ∷ saids) p h = by (same_path p s.path) refl h (λ e. not_said saids p e)
  where
    by : (b : Bool) → same_path p s.path ≡ b → (if b then Some s.value else said_at saids p) ≡ None → (said_at saids p ≡ None → list_any (same_path p) (map (λ (said : Said). said.path) saids) ≡ false) → (same_path p s.path || list_any (same_path p) (map (λ (said : Said). said.path) saids)) ≡ false
    by true is e rest = absurd (cc)
    by false is e rest = or_from (same_path p s.path) (list_any (same_path p) (map (λ (said : Said). said.path) saids)) is (rest e)

-- what is said of another path stays
said_other : (saids : List Said) (s : Said) (p : Path) → same_path p s.path ≡ false → said_at saids p ≡ said_at (saids ++ s ∷ []) p
said_other [] s p h = ap (λ b. if b then Some s.value else None) (sym h)
said_other (x ∷ saids) s p h = ap (λ o. if same_path p x.path then Some x.value else o) (said_other saids s p h)

said_new : (saids : List Said) (s : Said) → said_at saids s.path ≡ None → said_at (saids ++ s ∷ []) s.path ≡ Some s.value
said_new [] s h = ap (λ b. if b then Some s.value else None) (same_if s.path s.path refl)
said_new (x ∷ saids) s h = by (same_path s.path x.path) h (λ e. said_new saids s e)
  where
    by : (b : Bool) → (if b then Some x.value else said_at saids s.path) ≡ None → (said_at saids s.path ≡ None → said_at (saids ++ s ∷ []) s.path ≡ Some s.value) → (if b then Some x.value else said_at (saids ++ s ∷ []) s.path) ≡ Some s.value
    by true e rest = absurd (cc)
    by false e rest = rest e

drafted_rest : (leaves : List Leaf) (saids : List Said) (s : Said) → list_any (same_path s.path) (paths leaves) ≡ false → drafted leaves saids ≡ drafted leaves (saids ++ s ∷ [])
drafted_rest [] saids s h = refl
drafted_rest (l ∷ leaves) saids s h =
    let a = or_parts (same_path s.path (meant_path l.path)) (list_any (same_path s.path) (paths leaves)) h in
    ap₂ (λ (x : Option Value) (xs : List (Option Value)). x ∷ xs) (said_other saids s (meant_path l.path) (swapped s.path (meant_path l.path) a.0)) (drafted_rest leaves saids s a.1)

-- the values that are said, with one more
drafted_set : (leaves : List Leaf) → all_apart (paths leaves) ≡ true → (saids : List Said) (s : Said) (i : ℕ) (leaf : Leaf) → slice_get leaves i ≡ Some leaf → s.path ≡ meant_path leaf.path → said_at saids s.path ≡ None
    → set (drafted leaves saids) i (Some s.value) ≡ drafted leaves (saids ++ s ∷ [])
drafted_set [] apart saids s i leaf at is none = absurd (cc)
drafted_set (l ∷ leaves) apart saids s zero leaf at is none =
    let a = and_parts (not (list_any (same_path (meant_path l.path)) (paths leaves))) (all_apart (paths leaves)) apart in
    let here : s.path ≡ meant_path l.path = is ∙ ap (λ (x : Leaf). meant_path x.path) (sym (same_Some l leaf at)) in
    ap₂ (λ (x : Option Value) (xs : List (Option Value)). x ∷ xs) (sym (said_new saids s none) ∙ ap (said_at (saids ++ s ∷ [])) here) (drafted_rest leaves saids s (ap (λ p. list_any (same_path p) (paths leaves)) here ∙ not-true _ a.0))
drafted_set (l ∷ leaves) apart saids s (suc i) leaf at is none =
    let a = and_parts (not (list_any (same_path (meant_path l.path)) (paths leaves))) (all_apart (paths leaves)) apart in
    let other : same_path (meant_path l.path) s.path ≡ false = ap (same_path (meant_path l.path)) is ∙ apart_from leaves (meant_path l.path) (not-true _ a.0) i leaf at in
    ap₂ (λ (x : Option Value) (xs : List (Option Value)). x ∷ xs) (said_other saids s (meant_path l.path) other) (drafted_set leaves a.1 saids s i leaf at is none)

filter_push : {X Y : Type 0} (h : X → Option Y) (xs : List X) (x : X) (y : Y) → h x ≡ Some y → filter_map h (xs ++ x ∷ []) ≡ filter_map h xs ++ y ∷ []
filter_push {X = X} {Y = Y} h [] x y e = ap (λ o. cons_option o []) e
filter_push {X = X} {Y = Y} h (z ∷ xs) x y e = by (h z) (filter_push h xs x y e)
  where
    by : (o : Option Y) → filter_map h (xs ++ x ∷ []) ≡ filter_map h xs ++ y ∷ [] → cons_option o (filter_map h (xs ++ x ∷ [])) ≡ cons_option o (filter_map h xs) ++ y ∷ []
    by None r = r
    by (Some w) r = ap (λ zs. w ∷ zs) r

pub pairs_last : {A B : Type 0} (R : A → B → Type 0) (xs : List A) (x : A) (ys : List B) → Pairwise R (xs ++ x ∷ []) ys → (front : List B) × (y : B) × (ys ≡ front ++ y ∷ []) × Pairwise R xs front × R x y
pairs_last R [] x [] h = absurd h
pairs_last R [] x (y ∷ []) h = ([], y, refl, tt, h.0)
pairs_last R [] x (y ∷ z ∷ ys) h = absurd h.1
pairs_last R (w ∷ xs) x [] h = absurd h
pairs_last R (w ∷ xs) x (y ∷ ys) h =
    let r = pairs_last R xs x ys h.1 in (y ∷ r.0, r.1, ap (λ zs. y ∷ zs) r.2, (h.0, r.3), r.4)

module _ (leaves : List Leaf) (told : IsTold leaves) (lines : List (List ℕ)) (line : List ℕ) (draft : List (Option Value)) (goes : Goes leaves lines draft) where
  free_is : (o : Option (Option Value)) (u : Option Value) → o ≡ Some u → is_free o ≡ true → u ≡ None
  free_is o None e f = refl
  free_is o (Some v) e f = absurd (true≢false (sym f ∙ ap is_free e))

  drafted_at : (i : ℕ) (leaf : Leaf) → slice_get leaves i ≡ Some leaf → slice_get draft i ≡ Some (said_at (lines_said leaves lines) (meant_path leaf.path))
  drafted_at i leaf at =
      ap (λ d. slice_get d i) goes.draft_is
      ∙ slice_get-map (λ (l : Leaf). said_at (lines_said leaves lines) (meant_path l.path)) leaves i
      ∙ ap (option_map (λ (l : Leaf). said_at (lines_said leaves lines) (meant_path l.path))) at

  pub line_more : (after : List (Option Value)) → noted draft (read_line leaves line) ≡ Some after → Goes leaves (lines ++ line ∷ []) after
  line_more after e = by (read_line leaves line) refl e
    where
      with_said : (r : Reading) → (q : ReadOf leaves line r) → read_line leaves line ≡ Some r → said_at (lines_said leaves lines) (meant_path q.leaf.path) ≡ None → set draft r.leaf (Some r.value) ≡ after → Goes leaves (lines ++ line ∷ []) after
      with_said r q is none set_is =
          let s : Said = record { path = meant_path q.leaf.path; value = r.value } in
          let more : lines_said leaves (lines ++ line ∷ []) ≡ lines_said leaves lines ++ s ∷ [] = filter_push (line_said leaves) lines line s (said_complete leaves told line s q.says) in
          record {
            lines_are = subst (AreLines leaves (lines ++ line ∷ [])) (sym more) (record {
              each = pairs_push (IsLine leaves) lines (lines_said leaves lines) line s goes.lines_are.each q.says;
              apart = ap all_apart (map_push (λ (said : Said). said.path) (lines_said leaves lines) s) ∙ apart_push _ s.path goes.lines_are.apart (not_said (lines_said leaves lines) s.path none);
            });
            draft_is = sym set_is ∙ ap (λ d. set d r.leaf (Some r.value)) goes.draft_is ∙ drafted_set leaves told.apart (lines_said leaves lines) s r.leaf q.leaf q.there refl none ∙ ap (drafted leaves) (sym more);
          }

      with_reading : (r : Reading) → read_line leaves line ≡ Some r → (b : Bool) → is_free (slice_get draft r.leaf) ≡ b → (if b then Some (set draft r.leaf (Some r.value)) else None) ≡ Some after → Goes leaves (lines ++ line ∷ []) after
      with_reading r is true free h =
          let q = sound leaves line r is in
          with_said r q is (free_is (slice_get draft r.leaf) _ (drafted_at r.leaf q.leaf q.there) free) (same_Some _ after h)
      with_reading r is false free h = absurd (cc)

      by : (o : Option Reading) → read_line leaves line ≡ o → noted draft o ≡ Some after → Goes leaves (lines ++ line ∷ []) after
      by None is h = absurd (cc)
      by (Some r) is h = with_reading r is (is_free (slice_get draft r.leaf)) refl h

  not_free : (o : Option Value) → is_free (Some o) ≡ false → o ≡ None → ⊥
  not_free None f e = cc
  not_free (Some v) f e = cc

  pub line_wrong : noted draft (read_line leaves line) ≡ None → (more : List Said) → AreLines leaves (lines ++ line ∷ []) more → ⊥
  line_wrong e more are =
      let last = pairs_last (IsLine leaves) lines line more are.each in
      let front_is : last.0 ≡ lines_said leaves lines = lines_are leaves told lines last.0 last.3 in
      let h = last.4 in
      let read = complete leaves told line last.1 h in
      let apart : all_apart (map (λ (said : Said). said.path) last.0 ++ last.1.path ∷ []) ≡ true = ap all_apart (sym (map_push (λ (said : Said). said.path) last.0 last.1)) ∙ ap (λ m. all_apart (map (λ (said : Said). said.path) m)) (sym last.2) ∙ are.apart in
      let none : said_at (lines_said leaves lines) (meant_path h.leaf.path) ≡ None = ap₂ said_at (sym front_is) (sym h.same) ∙ unsaid last.0 last.1.path (apart_last _ last.1.path apart) in
      let noted_none : (if is_free (slice_get draft h.number) then Some (set draft h.number (Some last.1.value)) else None) ≡ None = ap (noted draft) (sym read) ∙ e in
      let not_some : is_free (slice_get draft h.number) ≡ false = if_none (is_free (slice_get draft h.number)) _ noted_none in
      not_free (said_at (lines_said leaves lines) (meant_path h.leaf.path)) (ap is_free (sym (drafted_at h.number h.leaf h.there)) ∙ not_some) none
    where
      if_none : (b : Bool) (x : List (Option Value)) → (if b then Some x else None) ≡ None → b ≡ false
      if_none true x h = absurd (cc)
      if_none false x h = refl

-- nothing is said before the first line
pub goes_none : (leaves : List Leaf) (draft : List (Option Value)) → draft ≡ drafted leaves [] → Goes leaves [] draft
goes_none leaves draft e = record { lines_are = record { each = tt; apart = refl }; draft_is = e }

pub kept_drafted : (leaves : List Leaf) (saids : List Said) → all_kept leaves (drafted leaves saids) ≡ kept_by leaves saids
kept_drafted [] saids = refl
kept_drafted (l ∷ leaves) saids = ap (λ r. kept_of l (said_at saids (meant_path l.path)) ∷ r) (kept_drafted leaves saids)

-- lines of a slice, one more
taken : (lines : List (Bor (List ℕ))) (place : ℕ) (x : Bor (List ℕ)) → place < length lines → x ≡ get_or lines place x
    → take (place + 1) (map (λ (l : Bor (List ℕ)). l.now) lines) ≡ take place (map (λ (l : Bor (List ℕ)). l.now) lines) ++ x.now ∷ []
taken lines place x lt at =
    take_more (map (λ (l : Bor (List ℕ)). l.now) lines) place x.now (subst (λ n. place < n) (sym (length-map lines (λ (l : Bor (List ℕ)). l.now))) lt)
    ∙ ap (λ y. take place (map (λ (l : Bor (List ℕ)). l.now) lines) ++ y ∷ []) (get_or-map (λ (l : Bor (List ℕ)). l.now) lines place x x.now lt ∙ ap (λ (l : Bor (List ℕ)). l.now) (sym at))

slice_more : (leaves : List Leaf) → IsTold leaves → (lines : List (Bor (List ℕ))) (place : ℕ) (x : Bor (List ℕ)) (draft after : List (Option Value)) → place < length lines → x ≡ get_or lines place x
    → Goes leaves (take place (map (λ (l : Bor (List ℕ)). l.now) lines)) draft → noted draft (read_line leaves x.now) ≡ Some after → Goes leaves (take (place + 1) (map (λ (l : Bor (List ℕ)). l.now) lines)) after
slice_more leaves told lines place x draft after lt at goes e =
    subst (λ ls. Goes leaves ls after) (sym (taken lines place x lt at)) (line_more leaves told (take place (map (λ (l : Bor (List ℕ)). l.now) lines)) x.now draft goes after e)

slice_wrong : (leaves : List Leaf) → IsTold leaves → (lines : List (Bor (List ℕ))) (place : ℕ) (x : Bor (List ℕ)) (draft : List (Option Value)) → place < length lines → x ≡ get_or lines place x
    → Goes leaves (take place (map (λ (l : Bor (List ℕ)). l.now) lines)) draft → noted draft (read_line leaves x.now) ≡ None → IsFirstWrong leaves (map (λ (l : Bor (List ℕ)). l.now) lines) place
slice_wrong leaves told lines place x draft lt at goes e = record {
  there = subst (λ n. place < n) (sym (length-map lines (λ (l : Bor (List ℕ)). l.now))) lt;
  saids = lines_said leaves (take place (map (λ (l : Bor (List ℕ)). l.now) lines));
  before = goes.lines_are;
  wrong = λ more are. line_wrong leaves told (take place (map (λ (l : Bor (List ℕ)). l.now) lines)) x.now draft goes e more (subst (λ ls. AreLines leaves ls more) (taken lines place x lt at) are);
}

-- the same, where the line is told by its place
pub item_more : (leaves : List Leaf) → IsTold leaves → (lines : List (Bor (List ℕ))) (place : ℕ) (d : Bor (List ℕ)) (draft after : List (Option Value)) → place < length lines
    → Goes leaves (take place (map (λ (l : Bor (List ℕ)). l.now) lines)) draft → noted draft (read_line leaves (get_or lines place d).now) ≡ Some after → Goes leaves (take (place + 1) (map (λ (l : Bor (List ℕ)). l.now) lines)) after
item_more leaves told lines place d draft after lt goes e = slice_more leaves told lines place (get_or lines place d) draft after lt (get_or_default lines place d (get_or lines place d) lt) goes e

pub item_wrong : (leaves : List Leaf) → IsTold leaves → (lines : List (Bor (List ℕ))) (place : ℕ) (d : Bor (List ℕ)) (draft : List (Option Value)) → place < length lines
    → Goes leaves (take place (map (λ (l : Bor (List ℕ)). l.now) lines)) draft → noted draft (read_line leaves (get_or lines place d).now) ≡ None → IsFirstWrong leaves (map (λ (l : Bor (List ℕ)). l.now) lines) place
item_wrong leaves told lines place d draft lt goes e = slice_wrong leaves told lines place (get_or lines place d) draft lt (get_or_default lines place d (get_or lines place d) lt) goes e
