use Rattle.std.proofs.Common.{◌≡◌, ℕ, true, false, refl, sym, ◌∙◌, ap, subst}
use Rattle.ptk_words.specs.Image.{ImageParts}
use Rattle.ptk_words.specs.declared.sections.Limits.{Limits}
use Rattle.ptk_words.specs.declared.threads.Thread.{Thread}
use Rattle.ptk_words_model.specs.State.{Part}
use Rattle.ptk_words_model.specs.ThreadCreation.{with_new_thread}
use Rattle.ptk_words_model.specs.Run.{fits, main_thread}
use Rattle.ptk_words_invariant.specs.Well.{IsWell}
use Rattle.ptk_gate_pools.specs.Held.{Held, limits_here}
use Rattle.ptk_gate.proofs.Loads.{room_at, fits_seen, main_seen, filled, loaded, refused_unfit}
use Rattle.ptk_gate.proofs.loading.load.Goals as goal

pub fill_memory-requires : goal.fill_memory-requires
fill_memory-requires c =
    let image : ImageParts = record { entry = c.args.entry; text = c.args.text.now; «data» = c.args.data.now; bss = c.args.bss } in
    let limits : Limits = limits_here c.args.pools.now in
    let fit : fits limits image ≡ true = fits_seen c.limits-limits.result limits image c.fits.result true c.limits-limits.ensures (c.fits.ensures c.args.entry) c.if-fits.true in
    record { room = room_at limits image c.args.pools.now.here c.requires.blank fit }

pub begin-requires-clause-well : goal.begin-requires-clause-well
begin-requires-clause-well c =
    let image : ImageParts = record { entry = c.args.entry; text = c.args.text.now; «data» = c.args.data.now; bss = c.args.bss } in
    let limits : Limits = limits_here c.args.pools.now in
    let fit : fits limits image ≡ true = fits_seen c.limits-limits.result limits image c.fits.result true c.limits-limits.ensures (c.fits.ensures c.args.entry) c.if-fits.true in
    let P : Held → Type 0 = λ h. IsWell (limits_here h) h.here in
    subst P (sym c.fill_memory.ensures) (filled limits image c.args.pools.now.here c.requires.well c.requires.threads c.requires.blank fit).well

pub returns-then-fits : goal.returns-then-fits
returns-then-fits c =
    let image : ImageParts = record { entry = c.args.entry; text = c.args.text.now; «data» = c.args.data.now; bss = c.args.bss } in
    let now : Held = c.args.pools.now in
    let mid : Held = c.fill_memory.new.self in
    let limits : Limits = limits_here now in
    let fit : fits limits image ≡ true = fits_seen c.limits-limits.result limits image c.fits.result true c.limits-limits.ensures (c.fits.ensures c.args.entry) c.if-fits.true in
    let main : c.main_thread-main.result ≡ main_thread limits image = main_seen c.limits-limits.result limits image c.main_thread-main.result c.limits-limits.ensures (c.main_thread-main.ensures image refl) in
    c.begin.ensures
    ∙ ap (λ (k : ℕ). record mid { here = with_new_thread (limits_here mid) k c.main_thread-main.result mid.here }) c.new.ensures
    ∙ ap (λ (thread : Thread). record mid { here = with_new_thread (limits_here mid) 1 thread mid.here }) main
    ∙ ap (λ (h : Held). record h { here = with_new_thread (limits_here h) 1 (main_thread limits image) h.here }) c.fill_memory.ensures
    ∙ ap (λ (s : Part). record now { here = s }) (loaded limits image now.here c.requires.blank fit)

pub returns-else-fits : goal.returns-else-fits
returns-else-fits c =
    let image : ImageParts = record { entry = c.args.entry; text = c.args.text.now; «data» = c.args.data.now; bss = c.args.bss } in
    let now : Held = c.args.pools.now in
    let limits : Limits = limits_here now in
    let unfit : fits limits image ≡ false = fits_seen c.limits-limits.result limits image c.fits.result false c.limits-limits.ensures (c.fits.ensures c.args.entry) c.if-fits.false in
    c.halt.ensures ∙ ap (λ (s : Part). record now { here = s }) (refused_unfit limits image now.here c.requires.blank unfit)
