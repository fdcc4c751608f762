-- What values in memory stand for.
use Rattle.silq_run.specs.declared.value.Kind.{Kind}
use Rattle.silq_run.specs.declared.value.Kind.TheVariants.{Whole, Single, Array, Gone}
use Rattle.silq_mean.specs.Value.{Value, whole, single, array, gone}

abbrev pub shown : Kind → Value
shown (Whole z) = whole z
shown (Single k a) = single k a
shown (Array k xs) = array k xs
shown Gone = gone
