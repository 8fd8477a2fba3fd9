use Rattle.std.proofs.Common.{List, [], ◌∷◌, ◌++◌, ap, sym, ◌∙◌}
use Rattle.ptk_image.specs.NamedFiles.{NamedFile, content_of}
use Rattle.ptk_image.proofs.Added.{appended}
use Rattle.ptk_image.proofs.files.Files.add.Goals as goal

pub returns-in_ok-push-in-None-clause-added : goal.returns-in_ok-push-in-None-clause-added
returns-in_ok-push-in-None-clause-added c = λ other.
    ap (λ (files : List NamedFile). content_of files other) (c.in_ok-push-in-None.ensures.items ∙ ap (λ (files : List NamedFile). files ++ c.in_ok-file.file ∷ []) c.self.view_is)
    ∙ appended c.args.self.now c.in_ok-file.file c.args.name.now c.args.content.now other c.in_ok-file.ensures (sym c.in-None.ensures.place)
