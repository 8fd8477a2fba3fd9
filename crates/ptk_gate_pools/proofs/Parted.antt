-- What one partition's part is after another was put.
use Rattle.std.proofs.Common.{arith, ◌≡◌, ◌≢◌, ℕ, ◌<◌, List, length, refl, ◌∙◌}
use Rattle.std.proofs.lemmas.List.{set-set, get_or-set_same, get_or-set_other, length-set}
use Rattle.ptk_words_model.specs.State.{Part}
use Rattle.ptk_gate_pools.specs.Kept.{Kept, part_at, put_part, AreParts}

within : {X : Type 0} (xs : List X) (n p : ℕ) → length xs ≡ n → p < n → p < length xs
within xs n p e lt = omega (arith, e, lt)

-- what was put is read
pub part_at-put : (n p : ℕ) (s : Part) (kept : Kept) → AreParts n kept → p < n → part_at p (put_part p s kept) ≡ s
part_at-put n p s kept parts lt =
    let memory : p < length kept.memory = within kept.memory n p parts.memory lt in
    let threads : p < length kept.threads = within kept.threads n p parts.threads lt in
    let lines : p < length kept.lines = within kept.lines n p parts.lines lt in
    let mutexes : p < length kept.mutexes = within kept.mutexes n p parts.mutexes lt in
    let conditions : p < length kept.conditions = within kept.conditions n p parts.conditions lt in
    let running : p < length kept.running = within kept.running n p parts.running lt in
    let cancellations : p < length kept.cancellations = within kept.cancellations n p parts.cancellations lt in
    let cleanups : p < length kept.cleanups = within kept.cleanups n p parts.cleanups lt in
    let destructors : p < length kept.destructors = within kept.destructors n p parts.destructors lt in
    let values : p < length kept.values = within kept.values n p parts.values lt in
    let rounds : p < length kept.rounds = within kept.rounds n p parts.rounds lt in
    let consoles : p < length kept.consoles = within kept.consoles n p parts.consoles lt in
    let statuses : p < length kept.statuses = within kept.statuses n p parts.statuses lt in
    let lasts : p < length kept.lasts = within kept.lasts n p parts.lasts lt in
    rw (
      get_or-set_same kept.memory p s.memory _ memory,
      get_or-set_same kept.threads p s.threads _ threads,
      get_or-set_same kept.lines p s.line _ lines,
      get_or-set_same kept.mutexes p s.mutexes _ mutexes,
      get_or-set_same kept.conditions p s.conditions _ conditions,
      get_or-set_same kept.running p s.running _ running,
      get_or-set_same kept.cancellations p s.cancellations _ cancellations,
      get_or-set_same kept.cleanups p s.cleanups _ cleanups,
      get_or-set_same kept.destructors p s.keys.destructors _ destructors,
      get_or-set_same kept.values p s.keys.values _ values,
      get_or-set_same kept.rounds p s.keys.rounds _ rounds,
      get_or-set_same kept.consoles p s.console _ consoles,
      get_or-set_same kept.statuses p s.status _ statuses,
      get_or-set_same kept.lasts p s.last _ lasts,
    ) refl

-- the later put counts
pub put_part-put : (p : ℕ) (a b : Part) (kept : Kept) → put_part p a (put_part p b kept) ≡ put_part p a kept
put_part-put p a b kept =
    rw (
      set-set kept.memory p b.memory a.memory,
      set-set kept.threads p b.threads a.threads,
      set-set kept.lines p b.line a.line,
      set-set kept.mutexes p b.mutexes a.mutexes,
      set-set kept.conditions p b.conditions a.conditions,
      set-set kept.running p b.running a.running,
      set-set kept.cancellations p b.cancellations a.cancellations,
      set-set kept.cleanups p b.cleanups a.cleanups,
      set-set kept.destructors p b.keys.destructors a.keys.destructors,
      set-set kept.values p b.keys.values a.keys.values,
      set-set kept.rounds p b.keys.rounds a.keys.rounds,
      set-set kept.consoles p b.console a.console,
      set-set kept.statuses p b.status a.status,
      set-set kept.lasts p b.last a.last,
    ) refl

-- another partition's part is as it was
pub part_at-other : (p q : ℕ) (s : Part) (kept : Kept) → q ≢ p → part_at q (put_part p s kept) ≡ part_at q kept
part_at-other p q s kept differ =
    rw (
      get_or-set_other kept.memory p q s.memory _ differ,
      get_or-set_other kept.threads p q s.threads _ differ,
      get_or-set_other kept.lines p q s.line _ differ,
      get_or-set_other kept.mutexes p q s.mutexes _ differ,
      get_or-set_other kept.conditions p q s.conditions _ differ,
      get_or-set_other kept.running p q s.running _ differ,
      get_or-set_other kept.cancellations p q s.cancellations _ differ,
      get_or-set_other kept.cleanups p q s.cleanups _ differ,
      get_or-set_other kept.destructors p q s.keys.destructors _ differ,
      get_or-set_other kept.values p q s.keys.values _ differ,
      get_or-set_other kept.rounds p q s.keys.rounds _ differ,
      get_or-set_other kept.consoles p q s.console _ differ,
      get_or-set_other kept.statuses p q s.status _ differ,
      get_or-set_other kept.lasts p q s.last _ differ,
    ) refl

-- every component keeps its length
pub parts_put : (n p : ℕ) (s : Part) (kept : Kept) → AreParts n kept → AreParts n (put_part p s kept)
parts_put n p s kept parts =
    record {
      few = parts.few;
      memory = length-set kept.memory p s.memory ∙ parts.memory;
      threads = length-set kept.threads p s.threads ∙ parts.threads;
      lines = length-set kept.lines p s.line ∙ parts.lines;
      mutexes = length-set kept.mutexes p s.mutexes ∙ parts.mutexes;
      conditions = length-set kept.conditions p s.conditions ∙ parts.conditions;
      running = length-set kept.running p s.running ∙ parts.running;
      cancellations = length-set kept.cancellations p s.cancellations ∙ parts.cancellations;
      cleanups = length-set kept.cleanups p s.cleanups ∙ parts.cleanups;
      destructors = length-set kept.destructors p s.keys.destructors ∙ parts.destructors;
      values = length-set kept.values p s.keys.values ∙ parts.values;
      rounds = length-set kept.rounds p s.keys.rounds ∙ parts.rounds;
      consoles = length-set kept.consoles p s.console ∙ parts.consoles;
      statuses = length-set kept.statuses p s.status ∙ parts.statuses;
      lasts = length-set kept.lasts p s.last ∙ parts.lasts;
    }
