use Rattle.sum_laws.proofs.laws.bit_lists_compare_in_text_order.Goals as goal
use Rattle.sum_laws.proofs.Order.{is_lt-text_order}

pub returns : goal.returns
returns c = is_lt-text_order
