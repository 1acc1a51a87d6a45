-- A minus sign before the magnitude of a number below 0, and the magnitude alone of any other.
-- Assumes nothing.
use Rattle.residual_data.proofs.Lines.{same_line}
use Rattle.frame_text.proofs.Texts.{laid-minus, laid-plus}
use Rattle.frame_text.proofs.put.signed.Goals as goal

pub returns-then-v-lt0-clause-text : goal.returns-then-v-lt0-clause-text
returns-then-v-lt0-clause-text c =
    let size = c.magnitude-size in
    let v = c.args.v in
    let same = same_line v c.requires.1 in
    laid-minus v size.result same size.ensures c.if-v-lt0.true c.named.ensures.text

pub returns-clause-text : goal.returns-clause-text
returns-clause-text c =
    let size = c.magnitude-size in
    let v = c.args.v in
    let same = same_line v c.requires.1 in
    laid-plus v size.result same size.ensures c.if-v-lt0.false c.named-2.ensures.text
