-- The numbers of a window plan's faults.
use Rattle.std.specs.Prelude.{ℕ}
use Rattle.ptk_words_model.specs.declared.fault.WindowFault.{WindowFault}
use Rattle.ptk_words_model.specs.declared.fault.WindowFault.TheVariants.{Empty, Short, Overlap, PastFrame, UnknownPartition, Memory, OutOfOrder}

-- the faults of a window table, refused memory, and the fault of a plan's numbers (own)
abbrev pub window_fault_number : WindowFault → ℕ
window_fault_number Empty = 1
window_fault_number Short = 2
window_fault_number Overlap = 3
window_fault_number PastFrame = 4
window_fault_number UnknownPartition = 5
window_fault_number Memory = 6
window_fault_number OutOfOrder = 7
