-- A move of one partition's console is that move in the table.
use Rattle.std.proofs.Common.{◌≡◌, ◌∙◌, ◌<◌, ℕ, List, length, get_or, refl, sym, ap, subst, map}
use Rattle.std.proofs.Math.ListN.{set}
use Rattle.std.proofs.Math.Seq.{map-set_same}
use Rattle.std.proofs.lemmas.List.{get_or-map, length-map, map-set}
use Rattle.ptk_words.specs.declared.sections.Limits.{Limits}
use Rattle.ptk_words_model.specs.State.{Console}
use Rattle.ptk_console.specs.ConsoleTable.{ConsoleTable, LimitedConsole, console_at, console_limits_at, put_console, table_of}

console_of : (xs : List LimitedConsole) (p : ℕ) (d : LimitedConsole) → p < length xs → console_at (table_of xs) p ≡ (get_or xs p d).console
console_of xs p d lt = get_or-map (λ (c : LimitedConsole). c.console) xs p d _ lt

limits_of : (xs : List LimitedConsole) (p : ℕ) (d : LimitedConsole) → p < length xs → console_limits_at (table_of xs) p ≡ (get_or xs p d).limits
limits_of xs p d lt = get_or-map (λ (c : LimitedConsole). c.limits) xs p d _ lt

-- x in the place of p is its console there, where the numbers of its section stay
placed : (xs : List LimitedConsole) (p : ℕ) (d x : LimitedConsole) → x.limits ≡ (get_or xs p d).limits → table_of (set xs p x) ≡ put_console p x.console (table_of xs)
placed xs p d x same =
    let consoles : map (λ (c : LimitedConsole). c.console) (set xs p x) ≡ set (map (λ (c : LimitedConsole). c.console) xs) p x.console = map-set (λ (c : LimitedConsole). c.console) xs p x in
    let limits : map (λ (c : LimitedConsole). c.limits) (set xs p x) ≡ map (λ (c : LimitedConsole). c.limits) xs = map-set_same (λ (c : LimitedConsole). c.limits) xs p x d same in
    rw (consoles, limits) refl

-- a move of the console that lies in a place, by its numbers and itself
in_place : (f : Limits → Console → Console) (xs : List LimitedConsole) (p : ℕ) (old x : LimitedConsole) → p < length xs → old ≡ get_or xs p old
    → x ≡ record { console = f old.limits old.console; limits = old.limits }
    → table_of (set xs p x) ≡ put_console p (f (console_limits_at (table_of xs) p) (console_at (table_of xs) p)) (table_of xs)
in_place f xs p old x lt read is =
    let limits : old.limits ≡ console_limits_at (table_of xs) p = ap (λ (c : LimitedConsole). c.limits) read ∙ sym (limits_of xs p old lt) in
    let console : old.console ≡ console_at (table_of xs) p = ap (λ (c : LimitedConsole). c.console) read ∙ sym (console_of xs p old lt) in
    placed xs p old x (ap (λ (c : LimitedConsole). c.limits) is ∙ ap (λ (c : LimitedConsole). c.limits) read)
    ∙ ap (λ (c : LimitedConsole). put_console p c.console (table_of xs)) is
    ∙ ap (λ (l : Limits). put_console p (f l old.console) (table_of xs)) limits
    ∙ ap (λ (c : Console). put_console p (f (console_limits_at (table_of xs) p) c) (table_of xs)) console

-- the same, of a table that the consoles make up
pub moved : (f : Limits → Console → Console) (xs : List LimitedConsole) (table : ConsoleTable) (p i : ℕ) (old x : LimitedConsole)
    → table_of xs ≡ table → i ≡ p → p < length table.consoles → old ≡ get_or xs i old
    → x ≡ record { console = f old.limits old.console; limits = old.limits }
    → table_of (set xs i x) ≡ put_console p (f (console_limits_at table p) (console_at table p)) table
moved f xs table p i old x view at lt read is =
    let P : ℕ → Type 0 = λ n. p < n in
    let within : p < length xs = subst P (ap (λ (t : ConsoleTable). length t.consoles) (sym view) ∙ length-map xs (λ (c : LimitedConsole). c.console)) lt in
    let here : old ≡ get_or xs p old = read ∙ ap (λ (n : ℕ). get_or xs n old) at in
    ap (λ (n : ℕ). table_of (set xs n x)) at
    ∙ in_place f xs p old x within here is
    ∙ ap (λ (t : ConsoleTable). put_console p (f (console_limits_at t p) (console_at t p)) t) view
