-- The tables by the partition in hand.
use Rattle.std.proofs.Common.{◌≡◌, ℕ, ◌<◌, ◌∙◌, ap, sym, subst}
use Rattle.std.proofs.lemmas.List.{set-get_or, set-set, get_or-set_same, length-set}
use Rattle.ptk_words.proofs.Cuts.{lent-same}
use Rattle.ptk_words.specs.declared.sections.Limits.{Limits}
use Rattle.ptk_words_model.specs.State.{Part}
use Rattle.ptk_gate_pools.specs.Kept.{Kept, AreParts, limits_at, part_at, put_part}
use Rattle.ptk_gate_pools.proofs.Parted.{part_at-put, put_part-put}
use Rattle.ptk_gate_pools.specs.Held.{Held, held, all_of, no_part, limits_here}

-- what is in hand is put back as it was
pub all-held : (p : ℕ) (kept : Kept) → all_of (held p kept) ≡ kept
all-held p kept = simp (set-set, set-get_or)

-- what was done with the part in hand is put into the tables
pub all-done : (p : ℕ) (s : Part) (kept : Kept) → all_of (record (held p kept) { here = s }) ≡ put_part p s kept
all-done p s kept = simp set-set

-- a move of a partition is one of the part in hand
pub held-put : (n p : ℕ) (s : Part) (kept : Kept) → AreParts n kept → p < n → held p (put_part p s kept) ≡ record (held p kept) { here = s }
held-put n p s kept parts lt =
    ap (λ (here : Part). record { hand = p; here = here; elsewhere = put_part p no_part (put_part p s kept) }) (part_at-put n p s kept parts lt)
    ∙ ap (λ (elsewhere : Kept). record { hand = p; here = s; elsewhere = elsewhere }) (put_part-put p no_part s kept)

pub ruleset handed = (lent-same, set-set, length-set, get_or-set_same)

pub ruleset taken = (all-held)

-- ---- from the part in hand to the tables

-- a move of the part in hand is one of its partition
pub lifted : (p : ℕ) (f : Limits → Part → Part) (kept : Kept) (taken new : Held) → taken ≡ held p kept → new ≡ record taken { here = f (limits_here taken) taken.here }
    → all_of new ≡ put_part p (f (limits_at p kept) (part_at p kept)) kept
lifted p f kept taken new e moved =
    ap all_of (moved ∙ ap (λ (h : Held). record h { here = f (limits_here h) h.here }) e) ∙ all-done p (f (limits_at p kept) (part_at p kept)) kept

-- a fact of a partition is one of the part in hand
pub lowered : (p : ℕ) (P : Limits → Part → Type 0) (kept : Kept) (taken : Held) → taken ≡ held p kept → P (limits_at p kept) (part_at p kept) → P (limits_here taken) taken.here
lowered p P kept taken e fact = let Q : Held → Type 0 = λ h. P (limits_here h) h.here in subst Q (sym e) fact

-- and the other way round
pub raised : (p : ℕ) (P : Limits → Part → Type 0) (kept : Kept) (taken : Held) → taken ≡ held p kept → P (limits_here taken) taken.here → P (limits_at p kept) (part_at p kept)
raised p P kept taken e fact = let Q : Held → Type 0 = λ h. P (limits_here h) h.here in subst Q e fact

pub ruleset lifting = (set-set)
