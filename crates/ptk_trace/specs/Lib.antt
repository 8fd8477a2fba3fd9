pub mod KeptSteps
pub use Rattle.ptk_words_model.specs.Run
