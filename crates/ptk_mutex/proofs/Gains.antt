-- When a thread's held priority grows, what its chain reaches rises to it, and nothing else changes.
use Rattle.std.proofs.Common.{arith, ◌≡◌, ◌≢◌, ℕ, suc, ◌<◌, ◌≤◌, max, Bool, true, false, List, length, sym, ◌∙◌, ap, refl, subst, inl, inr}
use Rattle.std.specs.Prelude.{Option, ◌⊎◌, if◌then◌else◌}
use Rattle.std.proofs.lemmas.Bool.{cases_eq}
use Rattle.ptk_words.proofs.Options.{max_cases}
use Rattle.ptk_words_model.specs.Chain.{Leads, leads_to, greatest_leading}
use Rattle.ptk_roster.specs.Raised.{risen}
use Rattle.ptk_words_sync_invariant.proofs.ChainLaws.{false_true, reaches_sound, chain_complete, IsNumber, IsBounded}
use Rattle.ptk_roster.proofs.LevelLists.{numbered_all}
use Rattle.ptk_roster.proofs.Tops.{IsTop, top-unique, greatest_leading-top}
use Rattle.ptk_mutex.proofs.Along.{raised_along, raised_along_at, length-raised_along}
use Rattle.ptk_mutex.proofs.Rises.{risen-is}
use Rattle.ptk_mutex.proofs.Joins.{priorities, length-priorities, priority_at, within_priorities, step_up, ReachedBy}

-- the rank of c is at least h, and the others' stay
pub record IsGain (rank after : ℕ → ℕ) (c h : ℕ) : Type 0 where
  pub own : after c ≡ max (rank c) h
  pub others : (w : ℕ) → w ≢ c → after w ≡ rank w

gained_le : (size : ℕ) (next : ℕ → Option ℕ) (rank after : ℕ → ℕ) (c h t x u : ℕ) → IsGain rank after c h → IsTop size next rank t x → IsNumber size u → Leads next u t → (u ≡ c) ⊎ (u ≢ c) → after u ≤ max x h
gained_le size next rank after c h t x u gain a n l (inl e) =
    let r : rank u ≤ x = a.greatest u n l in
    let s : rank u ≡ rank c = ap rank e in
    let o : after u ≡ max (rank c) h = ap after e ∙ gain.own in
    omega (arith, r, s, o)
gained_le size next rank after c h t x u gain a n l (inr ne) = omega (arith, a.greatest u n l, gain.others u ne)

kept_le : (size : ℕ) (next : ℕ → Option ℕ) (rank after : ℕ → ℕ) (c h t x u : ℕ) → IsBounded size next → IsGain rank after c h → IsTop size next rank t x → leads_to next t size c ≡ false → IsNumber size u → Leads next u t → (u ≡ c) ⊎ (u ≢ c) → after u ≤ x
kept_le size next rank after c h t x u bounded gain a e n l (inl same) = false_true (sym e ∙ chain_complete size next bounded c t (subst (λ w. Leads next w t) same l))
kept_le size next rank after c h t x u bounded gain a e n l (inr ne) = omega (arith, a.greatest u n l, gain.others u ne)

old_reach : (size : ℕ) (next : ℕ → Option ℕ) (rank after : ℕ → ℕ) (c h t x u : ℕ) → IsGain rank after c h → IsNumber size u → Leads next u t → rank u ≡ x → max x h ≡ x → (u ≡ c) ⊎ (u ≢ c) → ReachedBy size next after t (max x h)
old_reach size next rank after c h t x u gain n l r m (inl e) = inr (u, n, l, ap after e ∙ gain.own ∙ ap (λ y. max y h) (sym (ap rank e) ∙ r))
old_reach size next rank after c h t x u gain n l r m (inr ne) = inr (u, n, l, gain.others u ne ∙ r ∙ sym m)

gained_reach : (size : ℕ) (next : ℕ → Option ℕ) (rank after : ℕ → ℕ) (c h t x : ℕ) → IsGain rank after c h → IsNumber size c → Leads next c t → IsTop size next rank t x → ReachedBy size next rank t x → (max x h ≡ x) ⊎ (max x h ≡ h) → ReachedBy size next after t (max x h)
gained_reach size next rank after c h t x gain n l a (inl z) (inl m) = inl (m ∙ z)
gained_reach size next rank after c h t x gain n l a (inr (u, k, r, e)) (inl m) = old_reach size next rank after c h t x u gain k r e m (cases_eq u c)
gained_reach size next rank after c h t x gain n l a r (inr m) =
    let le : rank c ≤ x = a.greatest c n l in
    let o : after c ≡ max (rank c) h = gain.own in
    inr (c, n, l, omega (arith, le, o, m))

kept_reach_at : (size : ℕ) (next : ℕ → Option ℕ) (rank after : ℕ → ℕ) (c h t x u : ℕ) → IsBounded size next → IsGain rank after c h → leads_to next t size c ≡ false → IsNumber size u → Leads next u t → rank u ≡ x → (u ≡ c) ⊎ (u ≢ c) → ReachedBy size next after t x
kept_reach_at size next rank after c h t x u bounded gain e n l r (inl same) = false_true (sym e ∙ chain_complete size next bounded c t (subst (λ w. Leads next w t) same l))
kept_reach_at size next rank after c h t x u bounded gain e n l r (inr ne) = inr (u, n, l, gain.others u ne ∙ r)

kept_reach : (size : ℕ) (next : ℕ → Option ℕ) (rank after : ℕ → ℕ) (c h t x : ℕ) → IsBounded size next → IsGain rank after c h → leads_to next t size c ≡ false → ReachedBy size next rank t x → ReachedBy size next after t x
kept_reach size next rank after c h t x bounded gain e (inl z) = inl z
kept_reach size next rank after c h t x bounded gain e (inr (u, n, l, r)) = kept_reach_at size next rank after c h t x u bounded gain e n l r (cases_eq u c)

gained_by : (size : ℕ) (next : ℕ → Option ℕ) (rank after : ℕ → ℕ) (c h t x : ℕ) → IsBounded size next → IsNumber size c → IsGain rank after c h → IsTop size next rank t x → (b : Bool) → leads_to next t size c ≡ b → IsTop size next after t (if b then max x h else x)
gained_by size next rank after c h t x bounded n gain a true e =
    let l : Leads next c t = reaches_sound next t size c e in
    record {
      greatest = λ u k r. gained_le size next rank after c h t x u gain a k r (cases_eq u c);
      reached = gained_reach size next rank after c h t x gain n l a a.reached (max_cases x h);
    }
gained_by size next rank after c h t x bounded n gain a false e =
    record {
      greatest = λ u k r. kept_le size next rank after c h t x u bounded gain a e k r (cases_eq u c);
      reached = kept_reach size next rank after c h t x bounded gain e a.reached;
    }

-- a rise from c on gives the priorities after the gain
pub gain-is : (size : ℕ) (next : ℕ → Option ℕ) (rank after : ℕ → ℕ) (c h : ℕ) → IsBounded size next → IsNumber size c → IsGain rank after c h
    → risen next h size c (priorities size next rank) ≡ priorities size next after
gain-is size next rank after c h bounded n gain =
    let stored : List ℕ = priorities size next rank in
    let long : length stored ≡ size = length-priorities size next rank in
    risen-is next h size c stored (within_priorities size next next rank bounded)
    (record { each = λ w v e place le. inl (step_up size next rank w v h bounded e place le) })
    ∙ numbered_all size (greatest_leading size next after) (raised_along next h size c stored) (length-raised_along next h size c stored ∙ long) (λ i lt.
    let in_stored : i < length stored = rw long lt in
    raised_along_at next h size c i stored in_stored
    ∙ rw (priority_at size next rank i lt)
    (top-unique size next after (suc i) _ _
    (gained_by size next rank after c h (suc i) (greatest_leading size next rank (suc i)) bounded n gain (greatest_leading-top size next rank (suc i) bounded) (leads_to next (suc i) size c) refl)
    (greatest_leading-top size next after (suc i) bounded)))
