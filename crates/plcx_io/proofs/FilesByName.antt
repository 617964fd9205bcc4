-- Files that are found by their names.
use Rattle.std.proofs.Common.{◌≡◌, ◌<◌, ◌≤◌, ◌^◌, ℕ, Bool, true, false, cond, List, length, get_or, refl, ap, sym, ◌∙◌, arith, None, Some, nat_lt, subst}
use Rattle.std.specs.Prelude.{position, slice_set}
use Rattle.std.specs.List.{position_or_len}
use Rattle.std.specs.Option.{option_map, option_map_or}
use Rattle.std.specs.Str.{bytes_eq}
use Rattle.std.proofs.lemmas.Grind.{common_steps}
use Rattle.std.proofs.lemmas.Option.{slice_get-get_or, slice_get_past}
use Rattle.std.proofs.lemmas.Slice.Eq.{bytes_eq-Decides}
use Rattle.std.proofs.lemmas.List.Folds.{find_at, find-set, find_past}
use Rattle.std.proofs.lemmas.List.Sums.{passes_at_first}
use Rattle.plcx_io.specs.Counts.{raised, Rose}
use Rattle.plcx_io.specs.Memory.{StoredFile, after_fault, file_named}

-- whether the file has the name
abbrev pub named : List ℕ → StoredFile → Bool
named name file = bytes_eq file.name name

-- how many calls with the name have failed
abbrev pub faults_in : List StoredFile → ℕ → List ℕ → ℕ
faults_in files missing name = option_map_or (λ file. file.faults) (file_named files name) missing

-- a place that was found is the first, and within the list
place_found : (first len at : ℕ) → cond (nat_lt first len) (Some first) None ≡ Some at → (at ≡ first) × (first < len)
place_found first len at found = grind (arith, common_steps)

-- no place was found
place_missing : (first len : ℕ) → cond (nat_lt first len) (Some first) None ≡ None → len ≤ first
place_missing first len found = grind (arith, common_steps)

-- what stands at the place of a name: the file that is found by it
pub file_named-at : (files : List StoredFile) (at : ℕ) (d : StoredFile) (name : List ℕ) → position (named name) files ≡ Some at → (file_named files name ≡ Some (get_or files at d)) × (at < length files) × ((get_or files at d).name ≡ name)
file_named-at files at d name found =
    let (first, within) = place_found (position_or_len (named name) files) (length files) at found in
    let inside : at < length files = rw first within in
    let passes : named name (get_or files at d) ≡ true = rw first (passes_at_first (named name) files d within) in
    (rw first (find_at (named name) files ∙ slice_get-get_or files _ d within), inside, (bytes_eq-Decides _ _).0 passes)

-- with no place there is no file
pub file_named-none : (files : List StoredFile) (name : List ℕ) → position (named name) files ≡ None → file_named files name ≡ None
file_named-none files name found =
    find_at (named name) files ∙ slice_get_past files _ (place_missing (position_or_len (named name) files) (length files) found)

-- a fault that is counted at the place of a name is counted for the name
file_named-counted_same : (files : List StoredFile) (at : ℕ) (d : StoredFile) (name : List ℕ) → position (named name) files ≡ Some at → file_named (slice_set files at (after_fault (get_or files at d))) name ≡ option_map after_fault (file_named files name)
file_named-counted_same files at d name found =
    let here = file_named-at files at d name found in
    let first : at ≡ position_or_len (named name) files = (place_found _ (length files) at found).0 in
    find-set (named name) files at (after_fault (get_or files at d)) first here.1 ((bytes_eq-Decides _ _).1 here.2) ∙ sym (ap (option_map after_fault) here.0)

-- and for that name alone
pub file_named-counted : (files : List StoredFile) (at : ℕ) (d : StoredFile) (name other : List ℕ) → position (named name) files ≡ Some at → (same : Bool) → bytes_eq name other ≡ same → file_named (slice_set files at (after_fault (get_or files at d))) other ≡ cond same (option_map after_fault (file_named files other)) (file_named files other)
file_named-counted files at d name other found true same =
    let P : List ℕ → Type 0 = λ called. file_named (slice_set files at (after_fault (get_or files at d))) called ≡ option_map after_fault (file_named files called) in
    subst P ((bytes_eq-Decides name other).0 same) (file_named-counted_same files at d name found)
file_named-counted files at d name other found false same =
    let differs : bytes_eq (get_or files at d).name other ≡ false = rw (file_named-at files at d name found).2 same in
    find_past (named other) files at (after_fault (get_or files at d)) d differs differs

-- with no place nothing is counted
pub file_named-uncounted : (files : List StoredFile) (name other : List ℕ) → position (named name) files ≡ None → (same : Bool) → bytes_eq name other ≡ same → file_named files other ≡ cond same (option_map after_fault (file_named files other)) (file_named files other)
file_named-uncounted files name other found true same =
    let P : List ℕ → Type 0 = λ called. file_named files called ≡ option_map after_fault (file_named files called) in
    let none = file_named-none files name found in
    subst P ((bytes_eq-Decides name other).0 same) (none ∙ sym (ap (option_map after_fault) none))
file_named-uncounted files name other found false same = refl

-- what a counted fault leaves of the files
abbrev pub IsCounted : List StoredFile → List StoredFile → List ℕ → Type 0
IsCounted old new name = (called : List ℕ) → file_named new called ≡ cond (bytes_eq name called) (option_map after_fault (file_named old called)) (file_named old called)

-- the count of each name after a failed call for a file
pub faults-counted : (old new : List StoredFile) (missing : ℕ) (name other : List ℕ) (file : StoredFile) → file_named old name ≡ Some file → IsCounted old new name → (same : Bool) → bytes_eq name other ≡ same → faults_in new missing other ≡ cond same (raised (faults_in old missing other)) (faults_in old missing other)
faults-counted old new missing name other file found counted true same =
    let P : List ℕ → Type 0 = λ called. file_named old called ≡ Some file in
    let was : file_named old other ≡ Some file = subst P ((bytes_eq-Decides name other).0 same) found in
    let now : file_named new other ≡ Some (after_fault file) = rw (same, was) at (counted other) in
    rw (now, was) refl
faults-counted old new missing name other file found counted false same =
    let now : file_named new other ≡ file_named old other = rw same at (counted other) in
    rw now refl

-- the name's own count rises
pub faults-rose : (old new : List StoredFile) (missing : ℕ) (name : List ℕ) (file : StoredFile) → file_named old name ≡ Some file → IsCounted old new name → Rose (faults_in old missing name) (faults_in new missing name)
faults-rose old new missing name file found counted =
    let more : faults_in new missing name ≡ raised (faults_in old missing name) = faults-counted old new missing name name file found counted true ((bytes_eq-Decides name name).1 refl) in
    omega (arith, more)

-- no count falls by it
pub faults-later : (old new : List StoredFile) (missing : ℕ) (name other : List ℕ) (file : StoredFile) → file_named old name ≡ Some file → file.faults < 2 ^ 64 → IsCounted old new name → (same : Bool) → bytes_eq name other ≡ same → faults_in old missing other ≤ faults_in new missing other
faults-later old new missing name other file found range counted true same =
    let P : List ℕ → Type 0 = λ called. file_named old called ≡ Some file in
    let was : file_named old other ≡ Some file = subst P ((bytes_eq-Decides name other).0 same) found in
    let now : file_named new other ≡ Some (after_fault file) = rw (same, was) at (counted other) in
    rw (now, was) (omega arith)
faults-later old new missing name other file found range counted false same =
    let now : file_named new other ≡ file_named old other = rw same at (counted other) in
    rw now (omega arith)
