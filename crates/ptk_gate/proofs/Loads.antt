-- An image in a partition that has none.
use Rattle.std.proofs.Common.{arith, ◌≡◌, ℕ, zero, suc, ◌+◌, ◌-◌, ◌*◌, ◌<◌, ◌≤◌, Bool, true, false, List, ◌++◌, length, drop, refl, sym, ◌∙◌, ap, subst}
use Rattle.std.specs.Prelude.{Option, Some, None, Ok, Err, replicate, option_map, cond}
use Rattle.std.proofs.lemmas.Bool.{lt-ltb, ltb-false, not-true}
use Rattle.std.proofs.lemmas.List.{length-replicate, drop-replicate}
use Rattle.ptk_words.specs.Image.{ImageParts}
use Rattle.ptk_words.specs.Ranges.{IsWithinLimits}
use Rattle.ptk_words.specs.Pools.{least_free}
use Rattle.ptk_words.specs.declared.faults.ImageFault.{ImageFault}
use Rattle.ptk_words.specs.declared.faults.ImageFault.TheVariants.{Unfit}
use Rattle.ptk_words.specs.declared.faults.Status.TheVariants.{Refused}
use Rattle.ptk_words.specs.declared.sections.Limits.{Limits}
use Rattle.ptk_words.specs.declared.threads.Thread.{Thread}
use Rattle.ptk_words_model.specs.State.{Part, with_halt}
use Rattle.ptk_words_model.specs.ThreadCreation.{with_new_thread}
use Rattle.ptk_words_model.specs.Run.{fits, main_thread, memory_of, with_image}
use Rattle.ptk_words_invariant.specs.Well.{IsWell}
use Rattle.ptk_words_invariant.proofs.Parts.{well_memory, well_halt}
use Rattle.ptk_words_invariant.proofs.Starts.{well_least_free, memory_fits}
use Rattle.ptk_console.specs.ConsoleTable.{no_limits}
use Rattle.ptk_gate_pools.specs.Kept.{part_at, limits_at}
use Rattle.ptk_gate_pools.specs.Held.{Held, held, all_of, limits_here}
use Rattle.ptk_gate_pools.specs.Moves.{with_memory}
use Rattle.ptk_gate_pools.proofs.Hands.{lowered}
use Rattle.ptk_gate.specs.Whole.{AreWhole, IsBlank}
use Rattle.ptk_gate.proofs.Wholes.{whole_lifted, well_at}

-- memory with text and data at its start
abbrev pub written : List ℕ → List ℕ → List ℕ → List ℕ
written text initial memory = text ++ (initial ++ drop (length text + length initial) memory)

fits_room : (limits : Limits) (image : ImageParts) → fits limits image ≡ true → length image.text + length image.«data» + image.bss ≤ limits.memory - limits.threads * limits.stack
fits_room limits image e = ltb-false _ _ (not-true _ e)

-- there is room for text and data
pub room_at : (limits : Limits) (image : ImageParts) (s : Part) → IsBlank limits s → fits limits image ≡ true → length image.text + length image.«data» ≤ length s.memory
room_at limits image s blank e =
    let room : length image.text + length image.«data» + image.bss ≤ limits.memory - limits.threads * limits.stack = fits_room limits image e in
    let size : length s.memory ≡ limits.memory = ap (λ (part : Part). length part.memory) blank ∙ length-replicate limits.memory 0 in
    omega (arith, room, size)

written_is : (limits : Limits) (image : ImageParts) (s : Part) → IsBlank limits s → written image.text image.«data» s.memory ≡ memory_of limits image
written_is limits image s blank =
    ap (λ (part : Part). written image.text image.«data» part.memory) blank
    ∙ ap (λ zeros. image.text ++ (image.«data» ++ zeros)) (drop-replicate (length image.text + length image.«data») limits.memory 0)

pub fits_seen : (l m : Limits) (image : ImageParts) (b c : Bool) → l ≡ m → b ≡ fits l image → b ≡ c → fits m image ≡ c
fits_seen l m image b c same told e = ap (λ (limits : Limits). fits limits image) (sym same) ∙ sym told ∙ e

pub main_seen : (l m : Limits) (image : ImageParts) (thread : Thread) → l ≡ m → thread ≡ main_thread l image → thread ≡ main_thread m image
main_seen l m image thread same told = told ∙ ap (λ (limits : Limits). main_thread limits image) same

free_first : (n : ℕ) → 1 ≤ n → least_free (replicate {A = Option Thread} n None) ≡ Some 1
free_first zero some = absurd (omega (arith, some))
free_first (suc n) some =
    let pool : List (Option Thread) = replicate (suc n) None in
    let size : length pool ≡ suc n = length-replicate (suc n) None in
    ap (λ b. option_map suc (cond b (Some 0) None)) (lt-ltb 0 (length pool) (omega (arith, size)))

-- a partition with its image's memory, before main starts
pub record IsFilled (limits : Limits) (s : Part) : Type 0 where
  pub well : IsWell limits s
  pub free : least_free s.threads ≡ Some 1

pub filled : (limits : Limits) (image : ImageParts) (s : Part) → IsWell limits s → 1 ≤ limits.threads → IsBlank limits s → fits limits image ≡ true → IsFilled limits (with_memory (written image.text image.«data» s.memory) s)
filled limits image s well some blank e =
    let size : length (memory_of limits image) ≡ length s.memory = memory_fits limits image e ∙ sym (length-replicate limits.memory 0) ∙ sym (ap (λ (part : Part). length part.memory) blank) in
    let free : least_free s.threads ≡ Some 1 = ap (λ (part : Part). least_free part.threads) blank ∙ free_first limits.threads some in
    rw (written_is limits image s blank) (record { well = well_memory limits (memory_of limits image) s size well; free = free })

fitting : (limits : Limits) (image : ImageParts) (s : Part) (b : Bool) → fits limits image ≡ b → b ≡ true → with_new_thread limits 1 (main_thread limits image) (record s { memory = memory_of limits image }) ≡ with_image limits (Ok image) s
fitting limits image s b e f = rw (e ∙ f) refl

unfit : (limits : Limits) (image : ImageParts) (s : Part) → fits limits image ≡ false → record s { status = Refused Unfit } ≡ with_image limits (Ok image) s
unfit limits image s e = rw e refl

-- main starts
pub loaded : (limits : Limits) (image : ImageParts) (s : Part) → IsBlank limits s → fits limits image ≡ true
    → with_new_thread limits 1 (main_thread limits image) (with_memory (written image.text image.«data» s.memory) s) ≡ with_image limits (Ok image) s
loaded limits image s blank e = rw (written_is limits image s blank) (fitting limits image s true e refl)

-- a refused image: the partition is halted as it stands, since no thread runs in it
pub refused : (limits : Limits) (fault : ImageFault) (s : Part) → IsBlank limits s → with_halt (Refused fault) s ≡ with_image limits (Err fault) s
refused limits fault s blank = ap (λ running. record s { status = Refused fault; running = running }) (sym (ap (λ (part : Part). part.running) blank))

pub refused_unfit : (limits : Limits) (image : ImageParts) (s : Part) → IsBlank limits s → fits limits image ≡ false → with_halt (Refused Unfit) s ≡ with_image limits (Ok image) s
refused_unfit limits image s blank e = refused limits Unfit s blank ∙ unfit limits image s e

-- ---- the tables stay whole

well_loaded : (limits : Limits) (image : ImageParts) (s : Part) (b : Bool) → fits limits image ≡ b → IsWell limits s → 1 ≤ limits.threads → IsBlank limits s → IsWell limits (with_image limits (Ok image) s)
well_loaded limits image s false e well some blank =
    subst (λ (part : Part). IsWell limits part) (refused_unfit limits image s blank e) (well_halt limits (Refused Unfit) s well)
well_loaded limits image s true e well some blank =
    let memory : Part = with_memory (written image.text image.«data» s.memory) s in
    let ready : IsFilled limits memory = filled limits image s well some blank e in
    subst (λ (part : Part). IsWell limits part) (loaded limits image s blank e)
    (well_least_free limits 1 (main_thread limits image) memory ready.free (record { wait = refl; joiner = refl; ended = refl; used = refl }) ready.well)

pub whole_loaded : (p : ℕ) (image : ImageParts) (pools taken new : Held) → taken ≡ held p (all_of pools) → new ≡ record taken { here = with_image (limits_here taken) (Ok image) taken.here } → AreWhole (all_of pools) → p < length pools.elsewhere.limits → IsBlank (limits_at p (all_of pools)) (part_at p (all_of pools)) → AreWhole (all_of new)
whole_loaded p image pools taken new e moved are lt blank =
    let within : IsWithinLimits (limits_at p (all_of pools)) = are.ranges p no_limits lt in
    whole_lifted p (λ limits s. with_image limits (Ok image) s) pools taken new e moved are lt
    (well_loaded (limits_at p (all_of pools)) image (part_at p (all_of pools)) (fits (limits_at p (all_of pools)) image) refl (well_at p (all_of pools) are lt) within.threads_from blank)

pub whole_refused : (p : ℕ) (fault : ImageFault) (pools taken new : Held) → taken ≡ held p (all_of pools) → new ≡ record taken { here = with_image (limits_here taken) (Err fault) taken.here } → AreWhole (all_of pools) → p < length pools.elsewhere.limits → IsBlank (limits_at p (all_of pools)) (part_at p (all_of pools)) → AreWhole (all_of new)
whole_refused p fault pools taken new e moved are lt blank =
    let s : Part = part_at p (all_of pools) in
    whole_lifted p (λ limits u. with_image limits (Err fault) u) pools taken new e moved are lt
    (subst (λ (part : Part). IsWell (limits_at p (all_of pools)) part) (refused (limits_at p (all_of pools)) fault s blank) (well_halt (limits_at p (all_of pools)) (Refused fault) s (well_at p (all_of pools) are lt)))

-- there is room for a thread in each partition
pub some_threads : (p : ℕ) (pools taken : Held) → taken ≡ held p (all_of pools) → AreWhole (all_of pools) → p < length pools.elsewhere.limits → 1 ≤ (limits_here taken).threads
some_threads p pools taken e are lt =
    let within : IsWithinLimits (limits_at p (all_of pools)) = are.ranges p no_limits lt in
    lowered p (λ limits s. 1 ≤ limits.threads) (all_of pools) taken e within.threads_from

pub ruleset loads = (whole_loaded, some_threads, well_at)

pub ruleset refusals = (whole_refused)
