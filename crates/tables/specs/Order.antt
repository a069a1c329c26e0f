-- A choice by an order.
use Rattle.std.specs.declared.cmp.Ordering.{Ordering}
use Rattle.std.specs.declared.cmp.Ordering.TheVariants.{Less, Equal, Greater}

-- what is given for less, for equal, for greater
abbrev pub by_order : {A : Type 0} → Ordering → A → A → A → A
by_order Less l e g = l
by_order Equal l e g = e
by_order Greater l e g = g
