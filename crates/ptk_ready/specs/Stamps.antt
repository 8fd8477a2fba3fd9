-- The numbering anew of the ready threads' stamps.
use Rattle.std.specs.Prelude.{ℕ, ℤ, pos, int_lt, List, length, filter, map}
use Rattle.ptk_threads.specs.declared.link.Link.{Link}
use Rattle.ptk_ready.specs.Entries.{ready_of, stamp_of}

-- how many ready threads have a lesser stamp
abbrev pub rank : List Link → List ℤ → ℤ → ℕ
rank links stamps stamp = length (filter (λ k. int_lt (stamp_of stamps k) stamp) (ready_of links))

-- the stamps numbered from 0 in their order
abbrev pub renumbered : List Link → List ℤ → List ℤ
renumbered links stamps = map (λ stamp. pos (rank links stamps stamp)) stamps
