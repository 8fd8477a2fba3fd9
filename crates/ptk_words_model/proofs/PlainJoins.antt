-- Plain steps in a row are those of a first part, and then the rest.
use Rattle.std.proofs.Common.{◌≡◌, ℕ, zero, suc, ◌+◌, ◌-◌, ◌<◌, true, List, [], ◌∷◌, ◌++◌, sym, ap, ◌∙◌, arith, append_assoc, append-nil, inl, inr}
use Rattle.std.proofs.lemmas.Bool.{cases_lt}
use Rattle.ptk_words.specs.declared.sections.Entry.{Entry}
use Rattle.ptk_words_model.specs.PlainSteps.{Core, is_plain, plain_step, plain_steps, plain_entry, entry_after, plain_entries}
use Rattle.ptk_words_model.specs.PlainLaws.{StepsJoin, EntriesJoin}

pub steps_joined : StepsJoin
unfolding plain_steps
steps_joined n zero c = let none : n + 0 ≡ n = omega arith in ap (λ (k : ℕ). plain_steps k c) none
steps_joined n (suc m) c =
    let one : n + suc m ≡ suc (n + m) = omega arith in
    ap (λ (k : ℕ). plain_steps k c) one ∙ ap plain_step (steps_joined n m c)

pub entry_joined : (tick t n m : ℕ) (c : Core) → entry_after tick t (n + m) c ≡ entry_after (tick + n) t m (plain_steps n c)
entry_joined tick t n m c =
    let when : tick + (n + m) ≡ tick + n + m = omega arith in
    ap (λ (k : ℕ). plain_entry k t (plain_steps (n + m) c) (plain_step (plain_steps (n + m) c))) when
    ∙ ap (λ (a : Core). plain_entry (tick + n + m) t a (plain_step a)) (steps_joined n m c)

pub entries_joined : EntriesJoin
unfolding plain_entries
entries_joined tick t n zero c =
    let none : n + 0 ≡ n = omega arith in
    ap (λ (k : ℕ). plain_entries tick t k c) none ∙ sym (append-nil (plain_entries tick t n c))
entries_joined tick t n (suc m) c =
    let one : n + suc m ≡ suc (n + m) = omega arith in
    ap (λ (k : ℕ). plain_entries tick t k c) one
    ∙ (ap (λ (es : List Entry). es ++ entry_after tick t (n + m) c ∷ []) (entries_joined tick t n m c)
    ∙ (append_assoc (plain_entries tick t n c) (plain_entries (tick + n) t m (plain_steps n c)) (entry_after tick t (n + m) c ∷ [])
    ∙ ap (λ (e : Entry). plain_entries tick t n c ++ (plain_entries (tick + n) t m (plain_steps n c) ++ e ∷ [])) (entry_joined tick t n m c)))

-- where the first steps and then the next are plain, all are
pub plain_joined : (n m : ℕ) (c : Core) → ((k : ℕ) → k < n → is_plain (plain_steps k c) ≡ true) → ((k : ℕ) → k < m → is_plain (plain_steps k (plain_steps n c)) ≡ true)
    → (k : ℕ) → k < n + m → is_plain (plain_steps k c) ≡ true
plain_joined n m c first next k lt = elim (cases_lt k n) [
  | inl below ↦ first k below
  | inr above ↦ (let e : n + (k - n) ≡ k = omega (arith, above) in
      ap (λ (j : ℕ). is_plain (plain_steps j c)) (sym e) ∙ (ap is_plain (steps_joined n (k - n) c) ∙ next (k - n) (omega (arith, lt, above))))
]
