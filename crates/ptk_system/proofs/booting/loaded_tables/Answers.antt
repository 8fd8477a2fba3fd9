use Rattle.std.proofs.Common.{◌≡◌, ℕ, ◌<◌, List, length, get_or, sym, ap, subst, arith}
use Rattle.std.proofs.lemmas.List.{get_or_read}
use Rattle.ptk_words_model.specs.Run.{empty_part, with_image_bytes}
use Rattle.ptk_system_machine.specs.Kept.{limits_at, part_at, put_part}
use Rattle.ptk_config.specs.Sections.{Section}
use Rattle.ptk_system.specs.Missing.{image_in}
use Rattle.ptk_system.specs.World.{no_section}
use Rattle.ptk_system.specs.Loaded.{AreLoaded}
use Rattle.ptk_system.proofs.Loading.{is_blank, loaded_sections, more_loaded}
use Rattle.ptk_system.proofs.booting.loaded_tables.Goals as goal

pub load_section-requires-clause-partition : goal.load_section-requires-clause-partition
load_section-requires-clause-partition c =
    let lt : c.loop-i.i < length c.args.config.now.sections = subst (λ (s : List Section). c.loop-i.i < length s) c.sections-sections.ensures.value c.loop-i-test.true in
    omega (arith, lt, c.new.ensures, loaded_sections c.args.config.now c.args.files.now c.loop-i.i c.loop-i.tables c.loop-i.invariant)

pub load_section-requires-clause-blank : goal.load_section-requires-clause-blank
load_section-requires-clause-blank c =
    let lt : c.loop-i.i < length c.args.config.now.sections = subst (λ (s : List Section). c.loop-i.i < length s) c.sections-sections.ensures.value c.loop-i-test.true in
    subst (λ (j : ℕ). part_at j c.loop-i.tables ≡ empty_part (limits_at j c.loop-i.tables) (part_at j c.loop-i.tables).console.coming) (sym c.new.ensures)
    (is_blank c.args.config.now c.args.files.now c.loop-i.i c.loop-i.tables c.loop-i.invariant lt)

pub loop-i-preserved : goal.loop-i-preserved
loop-i-preserved c =
    let lt : c.loop-i.i < length c.args.config.now.sections = subst (λ (s : List Section). c.loop-i.i < length s) c.sections-sections.ensures.value c.loop-i-test.true in
    let read : c.index-sections-i.result ≡ get_or c.args.config.now.sections c.loop-i.i c.index-sections-i.result =
    subst (λ (s : List Section). c.index-sections-i.result ≡ get_or s c.loop-i.i c.index-sections-i.result) c.sections-sections.ensures.value c.index-sections-i.is in
    more_loaded c.args.config.now c.args.files.now c.loop-i.i c.index-sections-i.result c.loop-i.tables c.load_section.new.tables c.loop-i.invariant lt
    (get_or_read c.args.config.now.sections c.loop-i.i c.index-sections-i.result lt read no_section)
    (subst (λ (j : ℕ). c.load_section.new.tables ≡ put_part j (with_image_bytes (limits_at j c.loop-i.tables) (image_in c.args.files.now c.index-sections-i.result.image) (part_at j c.loop-i.tables)) c.loop-i.tables) c.new.ensures c.in_ok-load_section.ensures.loaded)

pub returns-clause-loaded : goal.returns-clause-loaded
returns-clause-loaded c =
    let last : c.loop-i.i ≡ length c.args.config.now.sections = omega (arith, ap length c.sections-sections.ensures.value) in
    subst (λ (n : ℕ). AreLoaded c.args.config.now c.args.files.now n c.loop-i.tables) last c.loop-i.invariant
