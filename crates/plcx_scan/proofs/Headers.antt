-- Headers: the columns that are read are those that its names stand for.
use Rattle.std.proofs.Common.{◌≡◌, ◌<◌, ◌∷◌, ◌∙◌, ℕ, zero, suc, Bool, true, false, true≢false, List, [], Option, Some, None, map, reverse, drop, length, refl, sym, ap, ap₂, subst, arith, if◌then◌else◌}
use Rattle.std.specs.Prelude.{slice_get, slice_set, ◌&&◌, ◌||◌, codes}
use Rattle.std.specs.Option.{option_map, option_and_then}
use Rattle.std.specs.List.{list_any, Contains}
use Rattle.std.specs.Str.{bytes_eq}
use Rattle.std.proofs.lemmas.Bool.{and_parts, or_parts, false_from_ne_true}
use Rattle.std.proofs.lemmas.List.{length-map, length-reverse, length-set, append-nil}
use Rattle.std.proofs.lemmas.Option.{same_Some, slice_get-map, slice_get_within, get_or_from_slice_get, slice_get_read}
use Rattle.std.proofs.lemmas.Slice.Eq.{bytes_eq-Decides}
use Rattle.plcx_types.specs.Name.{in_lower_case}
use Rattle.plcx_types.specs.Lists.{Each}
use Rattle.plcx_types.proofs.DurationsRead.{bound}
use Rattle.plcx_types.proofs.Wholes.{mapped}
use Rattle.plcx_meaning.specs.Base.{Path, are_distinct}
use Rattle.plcx_meaning.specs.Layout.{is_outside}
use Rattle.plcx_meaning.specs.Layout.{Leaf as Meant}
use Rattle.plcx_meaning.proofs.Lists.{IsNew, distinct_parts, distinct_from}
use Rattle.plcx_state.specs.declared.layout.Leaf.{Leaf}
use Rattle.plcx_state.specs.Layouts.{all_meant, meant, meant_path, dotted, LiesOutside}
use Rattle.plcx_state.specs.Retains.{Pairwise}
use Rattle.plcx_state.specs.Tables.{path_text, printed_at}
use Rattle.plcx_state.proofs.Eaches.{each_get}
use Rattle.plcx_state.proofs.Places.{printed_found, printed_is}
use Rattle.plcx_scan.specs.declared.column.Column.{Column}
use Rattle.plcx_scan.specs.Files.{Record, IsColumn, IsHeader}
use Rattle.plcx_scan.specs.ReadFiles.{field, has_word, column_of, column_at, column_named, is_taken, untaken, columns_from, none_taken, columns_of, CanTell, IsColumnOf, AreColumns}

-- a path of one name
single : (names : List (List ℕ)) → length names ≡ 1 → (x : List ℕ) × (names ≡ x ∷ [])
single [] h = absurd (let e : 0 ≡ 1 = h in omega arith)
single (x ∷ []) h = (x, refl)
single (x ∷ y ∷ names) h = absurd (omega arith)

outside_single : (p : Path) → is_outside p ≡ true → length p ≡ 1
outside_single [] h = absurd (cc)
outside_single (x ∷ []) h = refl
outside_single (x ∷ y ∷ p) h = absurd (cc)

meant_length : (names : List (List ℕ)) → length (meant_path names) ≡ length names
meant_length names = length-map (reverse names) in_lower_case ∙ length-reverse names

-- the path of a leaf with one name, in print and in the words of the meaning
one_name : (leaf : Leaf) → length leaf.path ≡ 1 → meant_path leaf.path ≡ path_text leaf ∷ []
one_name leaf h =
    let s = single leaf.path h in
    ap meant_path s.1 ∙ ap (λ (t : List ℕ). in_lower_case t ∷ []) (sym (append-nil s.0)) ∙ ap (λ (names : List (List ℕ)). in_lower_case (dotted names) ∷ []) (sym s.1)

outside_name : (leaf : Leaf) → LiesOutside leaf → leaf.settable ≡ true → meant_path leaf.path ≡ path_text leaf ∷ []
outside_name leaf outside settable =
    one_name leaf (sym (meant_length leaf.path) ∙ outside_single (meant_path leaf.path) (outside (ap (λ b. b || leaf.shown) settable)))

column_of_is : (k : ℕ) (leaf : Leaf) (d : Column) → column_of k leaf ≡ Some d → (leaf.settable ≡ true) × (d.leaf ≡ k) × (d.ty ≡ leaf.ty)
column_of_is k leaf d e = by leaf.settable refl e
  where
    by : (b : Bool) → leaf.settable ≡ b → (if b then Some (record { leaf = k; ty = leaf.ty }) else None) ≡ Some d → (leaf.settable ≡ true) × (d.leaf ≡ k) × (d.ty ≡ leaf.ty)
    by true is h = let same = same_Some (record { leaf = k; ty = leaf.ty }) d h in (is, ap (λ (c : Column). c.leaf) (sym same), ap (λ (c : Column). c.ty) (sym same))
    by false is h = absurd (cc)

pub contains_at : {A : Type 0} (xs : List A) (k : ℕ) (x : A) → slice_get xs k ≡ Some x → Contains xs x
contains_at xs k x e = (k, slice_get_within xs k x e, get_or_from_slice_get xs k x x e)

at_contains : {A : Type 0} (xs : List A) (x : A) → Contains xs x → (k : ℕ) × (slice_get xs k ≡ Some x)
at_contains xs x h = (h.0, slice_get_read xs (length xs) h.0 x refl h.1 (sym h.2))

-- a column that is read is that of the name
pub column_sound : (leaves : List Leaf) → CanTell leaves → (name : List ℕ) (d : Column) → column_named leaves name ≡ Some d
    → (c : Meant) × IsColumn (all_meant leaves) name c × IsColumnOf leaves d c
unfolding column_named
column_sound leaves tells name d e =
    let found = bound (column_at leaves) (printed_at (in_lower_case name) leaves) d e in
    let at = bound (column_of found.0) (slice_get leaves found.0) d found.2 in
    let is = printed_is leaves (in_lower_case name) found.0 found.1 in
    let leaf = at.0 in
    let same : is.0 ≡ leaf = same_Some is.0 leaf (sym is.1 ∙ at.1) in
    let column = column_of_is found.0 leaf d at.2 in
    let text : in_lower_case name ≡ path_text leaf = is.2 ∙ ap path_text same in
    let there : slice_get leaves d.leaf ≡ Some leaf = ap (slice_get leaves) column.1 ∙ at.1 in (
      meant leaf,
      record {
        among = contains_at (all_meant leaves) found.0 (meant leaf) (slice_get-map meant leaves found.0 ∙ ap (option_map meant) at.1);
        settable = column.0;
        path_is = outside_name leaf (each_get LiesOutside leaves found.0 leaf at.1 tells.outside) column.0 ∙ ap (λ (t : List ℕ). t ∷ []) (sym text);
      },
      record { own = leaf; there = there; meant_is = refl; typed = column.2; settable = column.0 },
    )

-- and what the name stands for is read
pub column_complete : (leaves : List Leaf) → CanTell leaves → (name : List ℕ) (c : Meant) → IsColumn (all_meant leaves) name c
    → (d : Column) × (column_named leaves name ≡ Some d) × IsColumnOf leaves d c
unfolding column_named
column_complete leaves tells name c h =
    let there = at_contains (all_meant leaves) c h.among in
    let own = mapped meant (slice_get leaves there.0) c (sym (slice_get-map meant leaves there.0) ∙ there.1) in
    let leaf = own.0 in
    let settable : leaf.settable ≡ true = ap (λ (m : Meant). m.settable) own.2 ∙ h.settable in
    let path : meant_path leaf.path ≡ in_lower_case name ∷ [] = ap (λ (m : Meant). m.path) own.2 ∙ h.path_is in
    let text : path_text leaf ∷ [] ≡ in_lower_case name ∷ [] = sym (outside_name leaf (each_get LiesOutside leaves there.0 leaf own.1 tells.outside) settable) ∙ path in
    let name_is : path_text leaf ≡ in_lower_case name = cc in
    let number : printed_at (in_lower_case name) leaves ≡ Some there.0 = ap (λ (t : List ℕ). printed_at t leaves) (sym name_is) ∙ printed_found leaves tells.told there.0 leaf own.1 in (
      record { leaf = there.0; ty = leaf.ty },
      ap (option_and_then (column_at leaves)) number ∙ ap (option_and_then (column_of there.0)) own.1 ∙ ap (λ b. if b then Some (record { leaf = there.0; ty = leaf.ty }) else None) settable,
      record { own = leaf; there = own.1; meant_is = sym own.2; typed = refl; settable = settable },
    )

get_set_other : {A : Type 0} (xs : List A) (i j : ℕ) (x : A) → (j ≡ i → ⊥) → slice_get (slice_set xs i x) j ≡ slice_get xs j
get_set_other [] i j x other = refl
get_set_other (y ∷ xs) zero zero x other = absurd (other refl)
get_set_other (y ∷ xs) zero (suc j) x other = refl
get_set_other (y ∷ xs) (suc i) zero x other = refl
get_set_other (y ∷ xs) (suc i) (suc j) x other = get_set_other xs i j x (λ e. other (ap suc e))

get_set_same : {A : Type 0} (xs : List A) (i : ℕ) (x : A) → i < length xs → slice_get (slice_set xs i x) i ≡ Some x
get_set_same [] i x h = absurd (omega arith)
get_set_same (y ∷ xs) zero x h = refl
get_set_same (y ∷ xs) (suc i) x h = get_set_same xs i x (omega arith)

-- names with the columns that they are read as
abbrev Named : List Leaf → List (List ℕ) → List Column → Type 0
Named leaves names ds = Pairwise (λ (name : List ℕ) (d : Column). column_named leaves name ≡ Some d) names ds

-- columns of leaves of which none is taken, and none comes twice
abbrev Fresh : List Bool → List Column → Type 0
Fresh taken [] = Unit {0}
Fresh taken (d ∷ ds) = (is_taken (slice_get taken d.leaf) ≡ false) × Fresh (slice_set taken d.leaf true) ds

untaken_is : (taken : List Bool) (o : Option Column) (d : Column) → untaken taken o ≡ Some d → (o ≡ Some d) × (is_taken (slice_get taken d.leaf) ≡ false)
untaken_is taken None d e = absurd (cc)
untaken_is taken (Some c) d e = by (is_taken (slice_get taken c.leaf)) refl e
  where
    by : (b : Bool) → is_taken (slice_get taken c.leaf) ≡ b → (if b then None else Some c) ≡ Some d → (Some c ≡ Some d) × (is_taken (slice_get taken d.leaf) ≡ false)
    by true is h = absurd (cc)
    by false is h = (h, ap (λ (x : Column). is_taken (slice_get taken x.leaf)) (sym (same_Some c d h)) ∙ is)

untaken_of : (taken : List Bool) (d : Column) → is_taken (slice_get taken d.leaf) ≡ false → untaken taken (Some d) ≡ Some d
untaken_of taken d e = ap (λ b. if b then None else Some d) e

from_sound : (leaves : List Leaf) (taken : List Bool) (names : List (List ℕ)) (ds : List Column) → columns_from leaves taken names ≡ Some ds → Named leaves names ds × Fresh taken ds
from_sound leaves taken [] [] e = (tt, tt)
from_sound leaves taken [] (d ∷ ds) e = absurd (let same : [] ≡ d ∷ ds = same_Some [] (d ∷ ds) e in cc)
from_sound leaves taken (name ∷ names) ds e =
    let first = bound (λ (c : Column). option_map (λ (cs : List Column). c ∷ cs) (columns_from leaves (slice_set taken c.leaf true) names)) (untaken taken (column_named leaves name)) ds e in
    let rest = mapped (λ (cs : List Column). first.0 ∷ cs) (columns_from leaves (slice_set taken first.0.leaf true) names) ds first.2 in
    let is = untaken_is taken (column_named leaves name) first.0 first.1 in
    let more = from_sound leaves (slice_set taken first.0.leaf true) names rest.0 rest.1 in
    subst (λ (xs : List Column). Named leaves (name ∷ names) xs × Fresh taken xs) rest.2 ((is.0, more.0), (is.1, more.1))

from_complete : (leaves : List Leaf) (taken : List Bool) (names : List (List ℕ)) (ds : List Column) → Named leaves names ds → Fresh taken ds → columns_from leaves taken names ≡ Some ds
from_complete leaves taken [] [] h f = refl
from_complete leaves taken [] (d ∷ ds) h f = absurd h
from_complete leaves taken (name ∷ names) [] h f = absurd h
from_complete leaves taken (name ∷ names) (d ∷ ds) h f =
    ap (λ (o : Option Column). option_and_then (λ (c : Column). option_map (λ (cs : List Column). c ∷ cs) (columns_from leaves (slice_set taken c.leaf true) names)) o)
    (ap (untaken taken) h.0 ∙ untaken_of taken d f.0)
    ∙ ap (option_map (λ (cs : List Column). d ∷ cs)) (from_complete leaves (slice_set taken d.leaf true) names ds h.1 f.1)

-- a leaf that is taken is not that of a fresh column
fresh_apart : (taken : List Bool) (k : ℕ) (ds : List Column) → is_taken (slice_get taken k) ≡ true → Fresh taken ds → Each (λ (d : Column). d.leaf ≡ k → ⊥) ds
fresh_apart taken k [] h f = tt
fresh_apart taken k (d ∷ ds) h f =
    let other : d.leaf ≡ k → ⊥ = λ e. true≢false (sym h ∙ ap (λ i. is_taken (slice_get taken i)) (sym e) ∙ f.0) in
    (other, fresh_apart (slice_set taken d.leaf true) k ds (ap is_taken (get_set_other taken d.leaf k true (λ e. other (sym e))) ∙ h) f.1)

-- the leaf of a column has the name
abbrev pub HasName : List Leaf → List ℕ → Column → Type 0
HasName leaves name d = (own : Leaf) × (slice_get leaves d.leaf ≡ Some own) × (meant_path own.path ≡ in_lower_case name ∷ [])

pub name_of : (leaves : List Leaf) (name : List ℕ) (d : Column) (c : Meant) → IsColumn (all_meant leaves) name c → IsColumnOf leaves d c → HasName leaves name d
name_of leaves name d c column of = (of.own, of.there, ap (λ (m : Meant). m.path) (sym of.meant_is) ∙ column.path_is)

pub one_named : (leaves : List Leaf) (n m : List ℕ) (d e : Column) → HasName leaves n d → HasName leaves m e → e.leaf ≡ d.leaf → in_lower_case n ≡ in_lower_case m
one_named leaves n m d e hd he same =
    let own : he.0 ≡ hd.0 = same_Some he.0 hd.0 (sym he.1 ∙ ap (slice_get leaves) same ∙ hd.1) in
    let paths : in_lower_case n ∷ [] ≡ in_lower_case m ∷ [] = sym hd.2 ∙ ap (λ (x : Leaf). meant_path x.path) (sym own) ∙ he.2 in
    cc

-- columns with the leaves of the meaning that their names stand for
abbrev Columned : List Leaf → List (List ℕ) → List Column → List Meant → Type 0
Columned leaves names ds cs = Named leaves names ds × Pairwise (IsColumn (all_meant leaves)) names cs × AreColumns leaves ds cs

-- the name of a column that is another one is new
new_names : (leaves : List Leaf) (name : List ℕ) (d : Column) → column_named leaves name ≡ Some d → (names : List (List ℕ)) (ds : List Column) → Named leaves names ds
    → Each (λ (e : Column). e.leaf ≡ d.leaf → ⊥) ds → IsNew (in_lower_case name) (map in_lower_case names)
unfolding column_named
new_names leaves name d is [] ds h apart = refl
new_names leaves name d is (n ∷ names) [] h apart = absurd h
new_names leaves name d is (n ∷ names) (e ∷ ds) h apart =
    let other = false_from_ne_true (bytes_eq (in_lower_case name) (in_lower_case n)) (λ same. apart.0
    (ap (λ (c : Column). c.leaf) (same_Some e d (sym h.0 ∙ ap (λ (t : List ℕ). option_and_then (column_at leaves) (printed_at t leaves)) (sym ((bytes_eq-Decides (in_lower_case name) (in_lower_case n)).0 same)) ∙ is)))) in
    ap₂ (λ a b. a || b) other (new_names leaves name d is names ds h.1 apart.1)

sound_names : (leaves : List Leaf) → CanTell leaves → (taken : List Bool) → length taken ≡ length leaves → (names : List (List ℕ)) (ds : List Column) → Named leaves names ds → Fresh taken ds
    → (cs : List Meant) × Pairwise (IsColumn (all_meant leaves)) names cs × AreColumns leaves ds cs × (are_distinct (map in_lower_case names) ≡ true)
sound_names leaves tells taken long [] [] h f = ([], tt, tt, refl)
sound_names leaves tells taken long [] (d ∷ ds) h f = absurd h
sound_names leaves tells taken long (n ∷ names) [] h f = absurd h
sound_names leaves tells taken long (n ∷ names) (d ∷ ds) h f =
    let first = column_sound leaves tells n d h.0 in
    let within : d.leaf < length taken = subst (λ i. d.leaf < i) (sym long) (slice_get_within leaves d.leaf first.2.own first.2.there) in
    let now : is_taken (slice_get (slice_set taken d.leaf true) d.leaf) ≡ true = ap is_taken (get_set_same taken d.leaf true within) in
    let rest = sound_names leaves tells (slice_set taken d.leaf true) (length-set taken d.leaf true ∙ long) names ds h.1 f.1 in (
      first.0 ∷ rest.0,
      (first.1, rest.1),
      (first.2, rest.2),
      distinct_from (in_lower_case n) (map in_lower_case names) (new_names leaves n d h.0 names ds h.1 (fresh_apart (slice_set taken d.leaf true) d.leaf ds now f.1)) rest.3,
    )

complete_names : (leaves : List Leaf) → CanTell leaves → (names : List (List ℕ)) (cs : List Meant) → Pairwise (IsColumn (all_meant leaves)) names cs → (ds : List Column) × Named leaves names ds × AreColumns leaves ds cs
complete_names leaves tells [] [] h = ([], tt, tt)
complete_names leaves tells [] (c ∷ cs) h = absurd h
complete_names leaves tells (n ∷ names) [] h = absurd h
complete_names leaves tells (n ∷ names) (c ∷ cs) h =
    let first = column_complete leaves tells n c h.0 in
    let rest = complete_names leaves tells names cs h.1 in
    (first.0 ∷ rest.0, (first.1, rest.1), (first.2, rest.2))

-- the leaves of other names are others
other_leaves : (leaves : List Leaf) (n : List ℕ) (d : Column) → HasName leaves n d → (names : List (List ℕ)) (ds : List Column) (cs : List Meant) → Pairwise (IsColumn (all_meant leaves)) names cs → AreColumns leaves ds cs
    → IsNew (in_lower_case n) (map in_lower_case names) → Each (λ (e : Column). e.leaf ≡ d.leaf → ⊥) ds
other_leaves leaves n d named [] [] [] h k new = tt
other_leaves leaves n d named [] (e ∷ ds) [] h k new = absurd k
other_leaves leaves n d named [] ds (c ∷ cs) h k new = absurd h
other_leaves leaves n d named (m ∷ names) ds [] h k new = absurd h
other_leaves leaves n d named (m ∷ names) [] (c ∷ cs) h k new = absurd k
other_leaves leaves n d named (m ∷ names) (e ∷ ds) (c ∷ cs) h k new =
    let parts = or_parts (bytes_eq (in_lower_case n) (in_lower_case m)) (list_any (bytes_eq (in_lower_case n)) (map in_lower_case names)) new in (
      (λ same. true≢false (sym ((bytes_eq-Decides (in_lower_case n) (in_lower_case m)).1 (one_named leaves n m d e named (name_of leaves m e c h.0 k.0) same)) ∙ parts.0)),
      other_leaves leaves n d named names ds cs h.1 k.1 parts.1,
    )

-- leaves that are not taken, and are not that of this number, are not taken with it
still_free : (taken : List Bool) (k : ℕ) (ds : List Column) → Each (λ (e : Column). e.leaf ≡ k → ⊥) ds → Each (λ (e : Column). is_taken (slice_get taken e.leaf) ≡ false) ds
    → Each (λ (e : Column). is_taken (slice_get (slice_set taken k true) e.leaf) ≡ false) ds
still_free taken k [] apart free = tt
still_free taken k (e ∷ ds) apart free = (ap is_taken (get_set_other taken k e.leaf true apart.0) ∙ free.0, still_free taken k ds apart.1 free.1)

complete_fresh : (leaves : List Leaf) (taken : List Bool) (names : List (List ℕ)) (ds : List Column) (cs : List Meant) → Pairwise (IsColumn (all_meant leaves)) names cs → AreColumns leaves ds cs
    → are_distinct (map in_lower_case names) ≡ true → Each (λ (e : Column). is_taken (slice_get taken e.leaf) ≡ false) ds → Fresh taken ds
complete_fresh leaves taken names [] cs h k once free = tt
complete_fresh leaves taken names (d ∷ ds) [] h k once free = absurd k
complete_fresh leaves taken [] (d ∷ ds) (c ∷ cs) h k once free = absurd h
complete_fresh leaves taken (n ∷ names) (d ∷ ds) (c ∷ cs) h k once free =
    let parts = distinct_parts (in_lower_case n) (map in_lower_case names) once in
    let apart = other_leaves leaves n d (name_of leaves n d c h.0 k.0) names ds cs h.1 k.1 parts.0 in
    (free.0, complete_fresh leaves (slice_set taken d.leaf true) names ds cs h.1 k.1 parts.1 (still_free taken d.leaf ds apart free.1))

none_is_taken : (leaves : List Leaf) (ds : List Column) → Each (λ (e : Column). is_taken (slice_get (none_taken leaves) e.leaf) ≡ false) ds
none_is_taken leaves [] = tt
none_is_taken leaves (d ∷ ds) = (ap is_taken (slice_get-map (λ (leaf : Leaf). false) leaves d.leaf) ∙ by (slice_get leaves d.leaf), none_is_taken leaves ds)
  where
    by : (o : Option Leaf) → is_taken (option_map (λ (leaf : Leaf). false) o) ≡ false
    by None = refl
    by (Some leaf) = refl

-- two fields that have something in them
pub two_words : (w v : ℕ) (ws vs : List ℕ) (header : Record) → field header 0 ≡ w ∷ ws → field header 1 ≡ v ∷ vs → header ≡ (w ∷ ws) ∷ (v ∷ vs) ∷ drop 2 header
two_words w v ws vs [] h k = absurd (cc)
two_words w v ws vs (x ∷ []) h k = absurd (cc)
two_words w v ws vs (x ∷ y ∷ header) h k = ap₂ (λ (a b : List ℕ). a ∷ b ∷ header) h k

-- a header is read as its columns
pub header_sound : (leaves : List Leaf) → CanTell leaves → (header : Record) (ds : List Column) → columns_of leaves header ≡ Some ds
    → (cs : List Meant) × IsHeader (all_meant leaves) header cs × AreColumns leaves ds cs
header_sound leaves tells header ds e = by (has_word header 0 (codes "event") && has_word header 1 (codes "time")) refl e
  where
    by : (b : Bool) → (has_word header 0 (codes "event") && has_word header 1 (codes "time")) ≡ b → (if b then columns_from leaves (none_taken leaves) (drop 2 header) else None) ≡ Some ds
        → (cs : List Meant) × IsHeader (all_meant leaves) header cs × AreColumns leaves ds cs
    by false is h = absurd (cc)
    by true is h =
        let words = and_parts (has_word header 0 (codes "event")) (has_word header 1 (codes "time")) is in
        let from = from_sound leaves (none_taken leaves) (drop 2 header) ds h in
        let names = sound_names leaves tells (none_taken leaves) (length-map leaves (λ (leaf : Leaf). false)) (drop 2 header) ds from.0 from.1 in (
          names.0,
          record {
            names = drop 2 header;
            header_is = two_words _ _ _ _ header ((bytes_eq-Decides (field header 0) (codes "event")).0 words.0) ((bytes_eq-Decides (field header 1) (codes "time")).0 words.1);
            are_columns = names.1;
            once = names.3;
          },
          names.2,
        )

-- and the columns that it stands for are read
pub header_complete : (leaves : List Leaf) → CanTell leaves → (header : Record) (cs : List Meant) → IsHeader (all_meant leaves) header cs
    → (ds : List Column) × (columns_of leaves header ≡ Some ds) × AreColumns leaves ds cs
header_complete leaves tells header cs h =
    let named = complete_names leaves tells h.names cs h.are_columns in (
      named.0,
      ap (columns_of leaves) h.header_is
          ∙ from_complete leaves (none_taken leaves) h.names named.0 named.1 (complete_fresh leaves (none_taken leaves) h.names named.0 cs h.are_columns named.2 h.once (none_is_taken leaves named.0)),
      named.2,
    )
