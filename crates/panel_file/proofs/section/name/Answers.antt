-- Bytes are left over.
use Rattle.std.proofs.Common.{rules}
use Rattle.panel_file.specs.declared.refusal.FileFault.TheVariants.{WrongNameByte}
use Rattle.panel_file.specs.Field.{byte_at}
use Rattle.panel_file.specs.Layout.{printable}
use Rattle.grid.proofs.Chains.{passed_by}
use Rattle.panel_file.proofs.Sections.{name_walk}
use Rattle.panel_file.proofs.section.name.Goals as goal

pub returns-in_err-require-2 : goal.returns-in_err-require-2
returns-in_err-require-2 c =
    let file = c.args.file.now in
    let passed = passed_by _ _ _ (name_walk file c.args.at _ _ _ _ _ c.at-first.ensures c.in_ok-count.ensures c.from.ensures c.after-begin.ensures (c.in_ok-end.ensures file WrongNameByte 1 (λ at. printable (byte_at file at)) (λ here r made. search rules))) in
    search rules
