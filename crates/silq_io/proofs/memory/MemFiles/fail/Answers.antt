use Rattle.std.proofs.Common.{◌≡◌, Some, None, position, sym, ◌∙◌, get_or, ap}
use Rattle.silq_io.specs.Memory.{Store, is_named}
use Rattle.silq_io.proofs.Places.{failed_at, failed_nowhere}
use Rattle.silq_io.proofs.memory.MemFiles.fail.Goals as goal

pub returns-in-Some : goal.returns-in-Some
returns-in-Some c name e =
    let files = c.self.inside.files.items in
    let file = c.index_mut-file.result.now in
    let at : position (is_named name) files ≡ Some c.in-Some.i = ap (λ (s : Store). position (is_named name) s.files) c.self.view_is ∙ (sym e ∙ c.in-Some.is) in
    let read : file ≡ get_or files c.in-Some.i file = c.index_mut-file.ensures.value in
    rw (c.fail.ensures, ← c.self.view_is) (failed_at _ name c.in-Some.i file at read)

pub returns-in-None : goal.returns-in-None
returns-in-None c name e =
    let at : position (is_named name) c.self.inside.files.items ≡ None = ap (λ (s : Store). position (is_named name) s.files) c.self.view_is ∙ (sym e ∙ c.in-None.is) in
    rw (c.one_more-self-inside.ensures, ← c.self.view_is) (failed_nowhere _ name at)
