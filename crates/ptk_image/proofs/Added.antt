-- What each name's bytes are after a file was put in.
use Rattle.std.proofs.Common.{◌≡◌, ℕ, suc, zero, ◌+◌, ◌<◌, Bool, true, false, cond, ltb, not, List, [], ◌∷◌, ◌++◌, length, get_or, find, Option, Some, None, option_map, refl, sym, ap, subst, ◌∙◌, arith}
use Rattle.std.specs.Prelude.{position, slice_get, if◌then◌else◌}
use Rattle.std.specs.List.{position_or_len}
use Rattle.std.specs.Str.{bytes_eq}
use Rattle.std.specs.Option.{option_or}
use Rattle.std.proofs.Math.ListN.{set}
use Rattle.std.proofs.lemmas.List.Folds.{find-set, find_past, find-append, find_at}
use Rattle.std.proofs.lemmas.Bool.{ltb-false}
use Rattle.std.proofs.lemmas.Option.{slice_get_past, slice_get_read}
use Rattle.std.proofs.lemmas.Slice.Eq.{bytes_eq-Decides}
use Rattle.ptk_words.proofs.Options.{not_chosen}
use Rattle.ptk_image.specs.NamedFiles.{NamedFile, content_of}

-- the first that passes does
passes : {X : Type 0} (p : X → Bool) (xs : List X) (i : ℕ) (d : X) → i ≡ position_or_len p xs → i < length xs → p (get_or xs i d) ≡ true
passes p [] i d e h = absurd (omega arith)
passes p (x ∷ xs) zero d e h = by (p x) e
  where
    by : (b : Bool) → 0 ≡ cond (not b) (1 + position_or_len p xs) 0 → b ≡ true
    by true k = refl
    by false k = absurd (omega arith)
passes p (x ∷ xs) (suc i) d e h = by (p x) e (λ k. passes p xs i d k (omega arith))
  where
    by : (b : Bool) → suc i ≡ cond (not b) (1 + position_or_len p xs) 0 → (i ≡ position_or_len p xs → p (get_or xs i d) ≡ true) → p (get_or xs i d) ≡ true
    by true k rest = absurd (omega arith)
    by false k rest = rest (omega arith)

place_is : (b : Bool) (n i : ℕ) → cond b (Some n) None ≡ Some i → i ≡ n
place_is true n i e = cc
place_is false n i e = absurd cc

-- the file of the name is replaced
pub replaced : (files : List NamedFile) (i : ℕ) (file : NamedFile) (name content other : List ℕ) → file ≡ record { name = name; content = content } → position (λ f. bytes_eq f.name name) files ≡ Some i → i < length files
    → content_of (set files i file) other ≡ (if bytes_eq name other then Some content else content_of files other)
replaced files i file name content other is at lt = by (bytes_eq name other) refl
  where
    first : i ≡ position_or_len (λ (f : NamedFile). bytes_eq f.name name) files
    first = place_is _ _ i at

    there : (get_or files i file).name ≡ name
    there = (bytes_eq-Decides _ name).0 (passes (λ (f : NamedFile). bytes_eq f.name name) files i file first lt)

    named : file.name ≡ name
    named = ap (λ (f : NamedFile). f.name) is

    by : (b : Bool) → bytes_eq name other ≡ b → content_of (set files i file) other ≡ cond b (Some content) (content_of files other)
    by true e =
        let same : name ≡ other = (bytes_eq-Decides name other).0 e in
        let at_other : i ≡ position_or_len (λ (f : NamedFile). bytes_eq f.name other) files = subst (λ (n : List ℕ). i ≡ position_or_len (λ (f : NamedFile). bytes_eq f.name n) files) same first in
        let passing : bytes_eq file.name other ≡ true = ap (λ n. bytes_eq n other) named ∙ e in
        ap (option_map (λ (f : NamedFile). f.content)) (find-set (λ (f : NamedFile). bytes_eq f.name other) files i file at_other lt passing) ∙ ap (λ (f : NamedFile). Some f.content) is
    by false e =
        let old : bytes_eq (get_or files i file).name other ≡ false = ap (λ n. bytes_eq n other) there ∙ e in
        let new : bytes_eq file.name other ≡ false = ap (λ n. bytes_eq n other) named ∙ e in
        ap (option_map (λ (f : NamedFile). f.content)) (find_past (λ (f : NamedFile). bytes_eq f.name other) files i file file old new)

at_first : {X : Type 0} (p : X → Bool) (xs : List X) (i : ℕ) → position p xs ≡ Some i → find p xs ≡ slice_get xs i
at_first p xs i e = find_at p xs ∙ ap (slice_get xs) (sym (place_is _ _ i e))

past : {X : Type 0} (xs : List X) (n : ℕ) → ltb n (length xs) ≡ false → slice_get xs n ≡ None
past xs n e = slice_get_past xs n (ltb-false n (length xs) e)

not_found : {X : Type 0} (p : X → Bool) (xs : List X) → position p xs ≡ None → find p xs ≡ None
not_found p xs e = find_at p xs ∙ past xs (position_or_len p xs) (not_chosen _ _ e)

-- the file at the place of a name is that name's
pub at_place : (files : List NamedFile) (i : ℕ) (name : List ℕ) → position (λ f. bytes_eq f.name name) files ≡ Some i → content_of files name ≡ option_map (λ file. file.content) (slice_get files i)
at_place files i name e = ap (option_map (λ (f : NamedFile). f.content)) (at_first (λ (f : NamedFile). bytes_eq f.name name) files i e)

-- the file that was read there has the name's bytes
pub place_read : (items files : List NamedFile) (i : ℕ) (x : NamedFile) (name : List ℕ) → items ≡ files → position (λ f. bytes_eq f.name name) files ≡ Some i → i < length files → x ≡ get_or items i x
    → Some x.content ≡ content_of files name
place_read items files i x name same at lt read =
    let got : slice_get files i ≡ Some x = slice_get_read files (length files) i x refl lt (subst (λ (xs : List NamedFile). x ≡ get_or xs i x) same read) in
    sym (at_place files i name at ∙ ap (option_map (λ (f : NamedFile). f.content)) got)

-- no file has the name
pub without_place : (files : List NamedFile) (name : List ℕ) → position (λ f. bytes_eq f.name name) files ≡ None → content_of files name ≡ None
without_place files name e = ap (option_map (λ (f : NamedFile). f.content)) (not_found (λ (f : NamedFile). bytes_eq f.name name) files e)

or_none : {X : Type 0} (o : Option X) → option_or o None ≡ o
or_none None = refl
or_none (Some x) = refl

-- a file of another name than all before
pub appended : (files : List NamedFile) (file : NamedFile) (name content other : List ℕ) → file ≡ record { name = name; content = content } → position (λ f. bytes_eq f.name name) files ≡ None
    → content_of (files ++ file ∷ []) other ≡ (if bytes_eq name other then Some content else content_of files other)
appended files file name content other is at = by (bytes_eq name other) refl
  where
    named : bytes_eq file.name other ≡ bytes_eq name other
    named = ap (λ (f : NamedFile). bytes_eq f.name other) is

    p : NamedFile → Bool
    p f = bytes_eq f.name other

    last : (b : Bool) → bytes_eq name other ≡ b → find (λ (f : NamedFile). bytes_eq f.name other) (file ∷ []) ≡ cond b (Some file) None
    last b e = ap (λ t. cond t (Some file) None) (named ∙ e)

    by : (b : Bool) → bytes_eq name other ≡ b → content_of (files ++ file ∷ []) other ≡ cond b (Some content) (content_of files other)
    by true e =
        let same : name ≡ other = (bytes_eq-Decides name other).0 e in
        let none : find (λ (f : NamedFile). bytes_eq f.name other) files ≡ None = subst (λ (n : List ℕ). find (λ (f : NamedFile). bytes_eq f.name n) files ≡ None) same (not_found (λ (f : NamedFile). bytes_eq f.name name) files at) in
        let found : find (λ (f : NamedFile). bytes_eq f.name other) (files ++ file ∷ []) ≡ Some file =
        find-append (λ (f : NamedFile). bytes_eq f.name other) files (file ∷ []) ∙ rw (none, last true e) refl in
        ap (option_map (λ (f : NamedFile). f.content)) found ∙ ap (λ (f : NamedFile). Some f.content) is
    by false e =
        let found : find (λ (f : NamedFile). bytes_eq f.name other) (files ++ file ∷ []) ≡ find (λ (f : NamedFile). bytes_eq f.name other) files =
        find-append (λ (f : NamedFile). bytes_eq f.name other) files (file ∷ []) ∙ (ap (option_or (find (λ (f : NamedFile). bytes_eq f.name other) files)) (last false e) ∙ or_none _) in
        ap (option_map (λ (f : NamedFile). f.content)) found

pub ruleset added = (replaced, appended)

pub ruleset found = (at_place, without_place)
