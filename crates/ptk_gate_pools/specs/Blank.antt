-- The pools before any image is loaded.
use Rattle.std.specs.Prelude.{List, [], map, replicate, length, None}
use Rattle.ptk_words.specs.declared.faults.Status.TheVariants.{Active}
use Rattle.ptk_words.specs.declared.sections.Limits.{Limits}
use Rattle.ptk_words_model.specs.Keys.{no_values, no_rounds}
use Rattle.ptk_words_model.specs.ThreadCreation.{new_cancellation}
use Rattle.ptk_words_model.specs.State.{Console}
use Rattle.ptk_gate_pools.specs.Kept.{Kept, per_section}

-- for each section: memory all 0, every number free, the line empty, no thread running, and these consoles
abbrev pub blank : List Limits → List Console → Kept
blank limits consoles =
    record {
      memory = per_section (λ l. l.memory) 0 limits;
      threads = per_section (λ l. l.threads) None limits;
      lines = replicate (length limits) [];
      mutexes = per_section (λ l. l.mutexes) None limits;
      conditions = per_section (λ l. l.conditions) None limits;
      running = replicate (length limits) None;
      cancellations = per_section (λ l. l.threads) new_cancellation limits;
      cleanups = per_section (λ l. l.threads) [] limits;
      destructors = per_section (λ l. l.keys) None limits;
      values = map (λ l. replicate l.threads (no_values l.keys)) limits;
      rounds = per_section (λ l. l.threads) no_rounds limits;
      consoles = consoles;
      statuses = replicate (length limits) Active;
      lasts = replicate (length limits) None;
      limits = limits;
    }
