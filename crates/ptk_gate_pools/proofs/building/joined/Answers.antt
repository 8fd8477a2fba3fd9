use Rattle.std.proofs.Common.{arith, ◌≡◌, ℕ, ◌≤◌, List, length, sym, ◌∙◌, ap, refl, subst}
use Rattle.std.proofs.lemmas.List.{length-map, length-replicate}
use Rattle.ptk_words.specs.declared.sections.Limits.{Limits}
use Rattle.ptk_threads.specs.Table.{ThreadTable}
use Rattle.ptk_console.specs.ConsoleTable.{ConsoleTable}
use Rattle.ptk_cancel.specs.KeptCancellations.{KeptCancellations}
use Rattle.ptk_keys.specs.KeptKeys.{KeptKeys}
use Rattle.ptk_gate_pools.proofs.Built.{stored_made}
use Rattle.ptk_gate_pools.proofs.building.joined.Goals as goal

pub invariant_of-result : goal.invariant_of-result
invariant_of-result c =
    let limits : List Limits = c.args.limits.now in
    let back : length limits ≡ length c.args.records.limits.items = ap length (sym c.requires.limits) in
    record {
      few = subst (λ (n : ℕ). n ≤ 8) back c.requires.sections;
      memory = ap length c.requires.memory ∙ length-map limits _ ∙ back;
      threads = ap (λ (table : ThreadTable). length table.threads) c.requires.table ∙ length-map limits _ ∙ back;
      priorities = ap (λ (table : ThreadTable). length table.stored) c.requires.table ∙ length-map limits _ ∙ back;
      lines = ap length c.requires.line ∙ length-replicate (length limits) _ ∙ back;
      mutexes = ap length c.requires.mutexes ∙ length-map limits _ ∙ back;
      conditions = ap length c.requires.conditions ∙ length-map limits _ ∙ back;
      running = ap length c.requires.running ∙ length-replicate (length limits) _ ∙ back;
      cancellations = ap (λ (kept : KeptCancellations). length kept.cancellations) c.requires.cancellations ∙ length-map limits _ ∙ back;
      cleanups = ap (λ (kept : KeptCancellations). length kept.cleanups) c.requires.cancellations ∙ length-map limits _ ∙ back;
      destructors = ap (λ (kept : KeptKeys). length kept.destructors) c.requires.keys ∙ length-map limits _ ∙ back;
      values = ap (λ (kept : KeptKeys). length kept.values) c.requires.keys ∙ length-map limits _ ∙ back;
      rounds = ap (λ (kept : KeptKeys). length kept.rounds) c.requires.keys ∙ length-map limits _ ∙ back;
      consoles = ap (λ (table : ConsoleTable). length table.consoles) c.requires.consoles ∙ length-map c.args.inputs.now _ ∙ c.requires.inputs ∙ back;
      sections = ap (λ (table : ConsoleTable). table.limits) c.requires.consoles ∙ sym c.requires.limits;
      statuses = ap length c.requires.statuses ∙ length-replicate (length limits) _ ∙ back;
      lasts = ap length c.requires.lasts ∙ length-replicate (length limits) _ ∙ back;
      stored = stored_made c.args.threads.schedules.roster.table c.args.threads.schedules.roster.mutexes limits c.requires.mutexes c.requires.table;
      in_hand = omega (arith, c.new-2.ensures, c.requires.some, back);
    }

pub returns : goal.returns
returns c =
    rw (
      c.new-2.ensures,
      c.requires.memory,
      c.requires.consoles,
      c.requires.table,
      c.requires.line,
      c.requires.running,
      c.requires.mutexes,
      c.requires.conditions,
      c.requires.cancellations,
      c.requires.keys,
      c.requires.statuses,
      c.requires.lasts,
      c.requires.limits,
    ) refl
