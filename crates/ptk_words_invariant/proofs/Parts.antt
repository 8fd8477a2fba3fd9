-- One part of the state changed that no thread's place depends on.
use Rattle.std.proofs.Common.{◌≡◌, ℕ, ◌+◌, ◌<◌, ◌≤◌, Bool, true, false, List, [], ◌∷◌, ◌++◌, length, refl, ◌∙◌, ap, arith}
use Rattle.std.specs.Prelude.{Option, nat_lt, if◌then◌else◌}
use Rattle.std.proofs.lemmas.Bool.{ltb-true, leb-false}
use Rattle.std.proofs.lemmas.List.{length_push}
use Rattle.ptk_words.specs.declared.sections.Limits.{Limits}
use Rattle.ptk_words.specs.declared.sections.Entry.{Entry}
use Rattle.ptk_words.specs.declared.faults.Status.{Status}
use Rattle.ptk_words_model.specs.State.{Part, Console, with_console, with_halt}
use Rattle.ptk_words_model.specs.Console.{is_full, with_output, with_input, without_arriving}
use Rattle.ptk_words_invariant.specs.Well.{IsWell}

-- no thread, line or wait changed
same_places : (limits : Limits) (s : Part) (memory : List ℕ) (console : Console) (last : Option Entry) → length memory ≡ limits.memory → console.waiters ≡ s.console.waiters → length console.ring ≤ limits.ring → length console.output ≤ limits.output
    → IsWell limits s → IsWell limits (record s { memory = memory; console = console; last = last })
same_places limits s memory console last size waiters ring output well = record {
  memory = size;
  threads = well.threads;
  mutexes = well.mutexes;
  conditions = well.conditions;
  endings = well.endings;
  line_ready = well.line_ready;
  line_distinct = well.line_distinct;
  running_ready = well.running_ready;
  running_out = well.running_out;
  waiters_wait = rw waiters well.waiters_wait;
  waiters_distinct = rw waiters well.waiters_distinct;
  waits_listed = rw waiters well.waits_listed;
  joiners_wait = well.joiners_wait;
  joins_listed = well.joins_listed;
  ended_wait = well.ended_wait;
  exclusion = well.exclusion;
  conditional = well.conditional;
  used = well.used;
  halted = well.halted;
  ring = ring;
  output = output;
}

pub well_memory : (limits : Limits) (memory : List ℕ) (s : Part) → length memory ≡ length s.memory → IsWell limits s → IsWell limits (record s { memory = memory })
well_memory limits memory s same well = same_places limits s memory s.console s.last (same ∙ well.memory) refl well.ring well.output well

pub well_last : (limits : Limits) (last : Option Entry) (s : Part) → IsWell limits s → IsWell limits (record s { last = last })
well_last limits last s well = same_places limits s s.memory s.console last well.memory refl well.ring well.output well

pub well_console : (limits : Limits) (console : Console) (s : Part) → console.waiters ≡ s.console.waiters → length console.ring ≤ limits.ring → length console.output ≤ limits.output → IsWell limits s → IsWell limits (record s { console = console })
well_console limits console s waiters ring output well = same_places limits s s.memory console s.last well.memory waiters ring output well

pub well_output : (limits : Limits) (byte : ℕ) (s : Part) → is_full limits.output s.console ≡ false → IsWell limits s → IsWell limits (with_console (with_output byte) s)
well_output limits byte s room well =
    well_console limits (with_output byte s.console) s refl well.ring (let lt : length s.console.output < limits.output = leb-false _ _ room in rw (length_push s.console.output byte) (omega (arith, lt))) well

input_at : (limits : Limits) (byte : ℕ) (s : Part) (b : Bool) → nat_lt (length s.console.ring) limits.ring ≡ b → IsWell limits s
    → IsWell limits (record s { console = (if b then record (s.console) { ring = s.console.ring ++ byte ∷ [] } else record (s.console) { dropped = s.console.dropped + 1 }) })
input_at limits byte s true room well =
    well_console limits (record (s.console) { ring = s.console.ring ++ byte ∷ [] }) s refl
    (let lt : length s.console.ring < limits.ring = ltb-true _ _ room in rw (length_push s.console.ring byte) (omega (arith, lt))) well.output well
input_at limits byte s false room well = well_console limits (record (s.console) { dropped = s.console.dropped + 1 }) s refl well.ring well.output well

pub well_input : (limits : Limits) (byte : ℕ) (s : Part) → IsWell limits s → IsWell limits (with_console (with_input limits.ring byte) s)
well_input limits byte s well = input_at limits byte s (nat_lt (length s.console.ring) limits.ring) refl well

pub well_taken : (limits : Limits) (byte : ℕ) (ring : List ℕ) (s : Part) → s.console.ring ≡ byte ∷ ring → IsWell limits s → IsWell limits (with_console (λ console. record console { ring = ring }) s)
well_taken limits byte ring s e well =
    let longer : length s.console.ring ≡ length (byte ∷ ring) = ap length e in
    well_console limits (record (s.console) { ring = ring }) s refl (omega (arith, longer, well.ring)) well.output well

pub well_arriving : (limits : Limits) (tick : ℕ) (s : Part) → IsWell limits s → IsWell limits (with_console (without_arriving tick) s)
well_arriving limits tick s well = well_console limits (without_arriving tick s.console) s refl well.ring well.output well

-- a partition that halts has no running thread
pub well_halt : (limits : Limits) (status : Status) (s : Part) → IsWell limits s → IsWell limits (with_halt status s)
well_halt limits status s well = record {
  memory = well.memory;
  threads = well.threads;
  mutexes = well.mutexes;
  conditions = well.conditions;
  endings = well.endings;
  line_ready = well.line_ready;
  line_distinct = well.line_distinct;
  running_ready = λ t e. absurd (let no : ⊥ = cc in no);
  running_out = λ t e. absurd (let no : ⊥ = cc in no);
  waiters_wait = well.waiters_wait;
  waiters_distinct = well.waiters_distinct;
  waits_listed = well.waits_listed;
  joiners_wait = well.joiners_wait;
  joins_listed = well.joins_listed;
  ended_wait = well.ended_wait;
  exclusion = well.exclusion;
  conditional = well.conditional;
  used = well.used;
  halted = λ e. refl;
  ring = well.ring;
  output = well.output;
}
