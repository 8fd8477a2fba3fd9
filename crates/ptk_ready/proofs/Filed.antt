-- The place of a thread in a queue, found along its links.
use Rattle.std.proofs.Common.{◌≡◌, ℕ, suc, ◌<◌, List, [], ◌∷◌, ◌++◌, length, Bool, true, false, refl, sym, ◌∙◌, ap, subst, arith, get_or, inl, inr}
use Rattle.std.specs.Prelude.{ℤ, int_lt, find, nat_eq, Option, Some, None}
use Rattle.std.proofs.lemmas.Bool.Decides.{nat_tests}
use Rattle.std.proofs.lemmas.Bool.{eqb-true, cases_Bool}
use Rattle.ptk_words.specs.Pools.{is_in}
use Rattle.ptk_words.proofs.Lists.{in_here}
use Rattle.ptk_threads.proofs.Along.{in_later, not_true}
use Rattle.std.proofs.lemmas.List.{get_or_read}
use Rattle.ptk_ready.specs.Entries.{stamp_of}
use Rattle.ptk_threads.specs.declared.link.Link.{Link}
use Rattle.ptk_threads.specs.declared.link.Ends.{Ends}
use Rattle.ptk_threads.specs.Links.{link_in, walk, no_ends, ends_at, queue_at}
use Rattle.ptk_threads.specs.LinkChanges.{put_before}
use Rattle.ptk_ready.specs.Orders.{placed}

-- a thread that fails the test is passed over
pub walk_on : (p : ℕ → Bool) (many rest : ℕ) (links : List Link) (at : Option ℕ) (k : ℕ) (next : Option ℕ) → many ≡ suc rest → at ≡ Some k → p k ≡ false → next ≡ (link_in links k).next
    → find p (walk rest links next) ≡ find p (walk many links at)
walk_on p many rest links at k next e is fails goes = rw (e, is, goes, fails) refl

-- what is found passes the test and is in the list
pub found_passes : (p : ℕ → Bool) (b : ℕ) (ks : List ℕ) → find p ks ≡ Some b → (p b ≡ true) × (is_in b ks ≡ true)
found_passes p b [] h = absurd (cc)
found_passes p b (k ∷ ks) h = elim (cases_Bool (p k)) as (λ _. (p b ≡ true) × (is_in b (k ∷ ks) ≡ true)) [
  | inl does ↦ (let found : Some k ≡ Some b = rw does at h in
      let same : k ≡ b = cc in
      (subst (λ z. p z ≡ true) same does, subst (λ z. is_in z (k ∷ ks) ≡ true) same (in_here k ks)))
  | inr fails ↦ (let rest : find p ks ≡ Some b = rw fails at h in
      let both = found_passes p b ks rest in (both.0, in_later b k ks both.1))
]

-- nobody has a greater stamp
pub placed_end : (stamp : ℕ → ℤ) (k : ℕ) (ks : List ℕ) → find (λ j. int_lt (stamp k) (stamp j)) ks ≡ None → placed stamp k ks ≡ ks ++ k ∷ []
placed_end stamp k [] h = refl
placed_end stamp k (j ∷ ks) h = elim (cases_Bool (int_lt (stamp k) (stamp j))) as (λ _. placed stamp k (j ∷ ks) ≡ j ∷ ks ++ k ∷ []) [
  | inl does ↦ (let found : Some j ≡ None = rw does at h in absurd (cc))
  | inr fails ↦ (let rest : find (λ i. int_lt (stamp k) (stamp i)) ks ≡ None = rw fails at h in rw fails (ap (λ l. j ∷ l) (placed_end stamp k ks rest)))
]

-- b is the first one of a greater stamp
pub placed_before : (stamp : ℕ → ℤ) (k b : ℕ) (ks : List ℕ) → find (λ j. int_lt (stamp k) (stamp j)) ks ≡ Some b → put_before k b ks ≡ placed stamp k ks
placed_before stamp k b [] h = absurd (cc)
placed_before stamp k b (j ∷ ks) h = elim (cases_Bool (int_lt (stamp k) (stamp j))) as (λ _. put_before k b (j ∷ ks) ≡ placed stamp k (j ∷ ks)) [
  | inl does ↦ (let found : Some j ≡ Some b = rw does at h in
      let same : b ≡ j = cc in
      let here : nat_eq b j ≡ true = grind (arith, nat_tests) in
      rw (does, here) refl)
  | inr fails ↦ (let rest : find (λ i. int_lt (stamp k) (stamp i)) ks ≡ Some b = rw fails at h in
      let passes = found_passes (λ i. int_lt (stamp k) (stamp i)) b ks rest in
      let apart : nat_eq b j ≡ false = not_true (nat_eq b j) (λ e. (let same : b ≡ j = eqb-true b j e in
      let contra : int_lt (stamp k) (stamp j) ≡ true = subst (λ z. int_lt (stamp k) (stamp z) ≡ true) same passes.0 in absurd (cc))) in
      rw (fails, apart) (ap (λ l. j ∷ l) (placed_before stamp k b ks rest)))
]

-- what was found along the links from the queue's first thread
pub first_later : (links : List Link) (ends : List Ends) (stamps : List ℤ) (k i n : ℕ) (stamp : ℤ) (end : Ends) (found : Option ℕ) → n ≡ length links → i < length ends → end ≡ get_or ends i end → stamp ≡ stamp_of stamps k
    → found ≡ find (λ j. int_lt stamp (stamp_of stamps j)) (walk (suc n) links end.first)
    → find (λ j. int_lt (stamp_of stamps k) (stamp_of stamps j)) (queue_at links ends i) ≡ found
first_later links ends stamps k i n stamp end found long lt read e is =
    let at : end ≡ ends_at ends i = get_or_read ends i end lt read no_ends in
    sym (is ∙ (rw (e, long) (ap (λ (o : Ends). find (λ j. int_lt (stamp_of stamps k) (stamp_of stamps j)) (walk (suc (length links)) links o.first)) at)))
