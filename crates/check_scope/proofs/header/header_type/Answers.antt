use Rattle.std.proofs.Common.{rules, ◌∙◌}
use Rattle.std.specs.Prelude.{option_map}
use Rattle.silq_tree.specs.Arena.{expr_at}
use Rattle.silq_tree.specs.Standing.{scalar_of}
use Rattle.check_scope.proofs.Chained.{first_along, header_type_is, type_unknown, type_without_width, type_without_length, type_without_scalar, type_without_shape, type_given}
use Rattle.check_scope.proofs.header.header_type.Goals as goal

pub returns-in_err-names_known-clause-fault : goal.returns-in_err-names_known-clause-fault
returns-in_err-names_known-clause-fault c =
    let s = c.args.statics.now in
    let at = expr_at c.args.tree.now in
    let h = first_along c.in_err-names_known.field-0.0 _ _ (header_type_is s at c.args.ty c.args.at)
    (type_unknown s c.args.ty.classical (scalar_of at c.args.ty.scalar) (option_map at c.args.ty.size) c.args.at _ c.in_err-names_known.ensures.fault) in
    search rules

pub returns-in_err-width-clause-fault : goal.returns-in_err-width-clause-fault
returns-in_err-width-clause-fault c =
    let s = c.args.statics.now in
    let at = expr_at c.args.tree.now in
    let h = first_along c.in_err-width.field-0.0 _ _ (header_type_is s at c.args.ty c.args.at)
    (type_without_width s c.args.ty.classical (scalar_of at c.args.ty.scalar) (option_map at c.args.ty.size) c.args.at
    _ c.in_ok-names_known.ensures.value _ c.in_err-width.ensures.fault) in
    search rules

pub returns-in_err-len-clause-fault : goal.returns-in_err-len-clause-fault
returns-in_err-len-clause-fault c =
    let s = c.args.statics.now in
    let at = expr_at c.args.tree.now in
    let h = first_along c.in_err-len.field-0.0 _ _ (header_type_is s at c.args.ty c.args.at)
    (type_without_length s c.args.ty.classical (scalar_of at c.args.ty.scalar) (option_map at c.args.ty.size) c.args.at
    _ c.in_ok-names_known.ensures.value _ c.in_ok-width.ensures.value _ c.in_err-len.ensures.fault) in
    search rules

pub returns-in_err-scalar-clause-fault : goal.returns-in_err-scalar-clause-fault
returns-in_err-scalar-clause-fault c =
    let s = c.args.statics.now in
    let at = expr_at c.args.tree.now in
    let h = first_along c.in_err-scalar.field-0.0 _ _ (header_type_is s at c.args.ty c.args.at)
    (type_without_scalar s c.args.ty.classical (scalar_of at c.args.ty.scalar) (option_map at c.args.ty.size) c.args.at
    _ c.in_ok-names_known.ensures.value _ c.in_ok-width.ensures.value _ c.in_ok-len.ensures.value _ (c.in_err-scalar.ensures.fault at)) in
    search rules

pub returns-in_err-shape-clause-fault : goal.returns-in_err-shape-clause-fault
returns-in_err-shape-clause-fault c =
    let s = c.args.statics.now in
    let at = expr_at c.args.tree.now in
    let h = first_along c.in_err-shape.field-0.0 _ _ (header_type_is s at c.args.ty c.args.at)
    (type_without_shape s c.args.ty.classical (scalar_of at c.args.ty.scalar) (option_map at c.args.ty.size) c.args.at
    _ c.in_ok-names_known.ensures.value _ c.in_ok-width.ensures.value _ c.in_ok-len.ensures.value _ (c.in_ok-scalar.ensures.value at) _ c.in_err-shape.ensures.fault) in
    search rules

pub returns-clause-value : goal.returns-clause-value
returns-clause-value c =
    let s = c.args.statics.now in
    let at = expr_at c.args.tree.now in
    header_type_is s at c.args.ty c.args.at
    ∙ type_given s c.args.ty.classical (scalar_of at c.args.ty.scalar) (option_map at c.args.ty.size) c.args.at
    _ c.in_ok-names_known.ensures.value _ c.in_ok-width.ensures.value _ c.in_ok-len.ensures.value _ (c.in_ok-scalar.ensures.value at) _ c.in_ok-shape.ensures.value
