-- What every image keeps.
use Rattle.std.specs.Prelude.{◌≡◌, ◌<◌, ◌≤◌, ◌%◌, ◌^◌, length}
use Rattle.ptk_words.specs.Image.{ImageParts}

-- the text is whole words, the entry is the offset of one of them or the text's end, and the three lengths are words (own)
pub record IsImage (image : ImageParts) : Type 0 where
  pub aligned : image.entry % 4 ≡ 0
  pub inside : image.entry ≤ length image.text
  pub whole : length image.text % 4 ≡ 0
  pub text_fits : length image.text < 2 ^ 32
  pub data_fits : length image.«data» < 2 ^ 32
  pub bss_fits : image.bss < 2 ^ 32
