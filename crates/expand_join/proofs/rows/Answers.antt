-- `rows` answers the verdict of the tests of both channels' rows, column by column. Assumes nothing.
use Rattle.expand_join.specs.Stages.{first-a-refuses, second-a-refuses, first-c-refuses, second-c-settles}
use Rattle.expand_join.proofs.rows.Goals as goal

pub returns-in_default : goal.returns-in_default
returns-in_default c = λ b.
    first-a-refuses c.args.m1 c.args.m2 c.args.a.now c.args.c.now c.requires.2.same b _ c.column-first_a.ensures _ c.in_default.is

pub returns-in_default-second_a : goal.returns-in_default-second_a
returns-in_default-second_a c = λ b.
    second-a-refuses c.args.m1 c.args.m2 c.args.a.now c.args.c.now c.requires.2.same b _ c.column-first_a.ensures c.in-Ok.is _
    c.column-second_a.ensures _ c.in_default-second_a.is

pub returns-in_default-first_c : goal.returns-in_default-first_c
returns-in_default-first_c c = λ b.
    first-c-refuses c.args.m1 c.args.m2 c.args.a.now c.args.c.now c.requires.2.same b _ c.column-first_a.ensures c.in-Ok.is _
    c.column-second_a.ensures c.in-Ok-second_a.is _ c.column-first_c.ensures _ c.in_default-first_c.is

pub returns : goal.returns
returns c = λ b.
    second-c-settles c.args.m1 c.args.m2 c.args.a.now c.args.c.now c.requires.2.same b _ c.column-first_a.ensures c.in-Ok.is _
    c.column-second_a.ensures c.in-Ok-second_a.is _ c.column-first_c.ensures c.in-Ok-first_c.is
    c.column.result c.column.ensures
