-- Worked cuts of streams, by computation.
use Rattle.std.proofs.Common.{◌≡◌, ◌∷◌, [], codes, Some, None, true, refl}
use Rattle.ov_specs.specs.wire.Balance.{bare, is_balanced}
use Rattle.ov_specs.specs.wire.Cut.{cut, cut_from, Stray, TooLong}

-- a literal is taken out, with the brace in it
pub brace_inside_text : bare (codes "{\"a\":\"}\"}") ≡ Some (codes "{:}")
brace_inside_text = refl

-- an escaped quote does not end a literal
pub escaped_quote_inside_text : bare (codes "{\"a\\\"}\":1}") ≡ Some (codes "{:1}")
escaped_quote_inside_text = refl

-- an escaped backslash does not escape the quote after it
pub escaped_backslash_inside_text : is_balanced (codes "{\"a\\\\\":1}") ≡ true
escaped_backslash_inside_text = refl

-- a quote is left over
pub quote_left_over : bare (codes "{\"a}") ≡ None
quote_left_over = refl

-- a closing brace before the opening one balances, but begins no message
pub closing_brace_first : cut (codes "}{") ≡ record { messages = []; rest = []; damage = Some (Stray 0) }
unfolding cut
closing_brace_first = refl

-- nothing, and white space alone
pub nothing_comes : cut [] ≡ record { messages = []; rest = []; damage = None }
unfolding cut
nothing_comes = refl

pub white_space_alone : cut (32 ∷ 9 ∷ 10 ∷ 13 ∷ []) ≡ record { messages = []; rest = []; damage = None }
unfolding cut
white_space_alone = refl

-- two requests joined, the second with an escaped quote and a brace in its text
pub joined_requests : cut (codes "{\"id\":0,\"method\":\"list_dbs\",\"params\":[]}{\"id\":\"x\",\"method\":\"echo\",\"params\":[\"a\\\"}\",{}]}") ≡ record { messages = codes "{\"id\":0,\"method\":\"list_dbs\",\"params\":[]}" ∷ codes "{\"id\":\"x\",\"method\":\"echo\",\"params\":[\"a\\\"}\",{}]}" ∷ []; rest = []; damage = None }
unfolding cut
joined_requests = refl

-- white space before, between and after messages
pub spaced_requests : cut (codes " {} {\"a\":{}} ") ≡ record { messages = codes "{}" ∷ codes "{\"a\":{}}" ∷ []; rest = []; damage = None }
unfolding cut
spaced_requests = refl

-- a request, and then a stray bracket
pub stray_bracket : cut (codes "{\"id\":0,\"method\":\"list_dbs\",\"params\":[]}]") ≡ record { messages = codes "{\"id\":0,\"method\":\"list_dbs\",\"params\":[]}" ∷ []; rest = []; damage = Some (Stray 40) }
unfolding cut
stray_bracket = refl

-- a request that does not end
pub unfinished_message : cut (codes "{\"id\":0,\"method\":\"echo\",\"params\":[") ≡ record { messages = []; rest = codes "{\"id\":0,\"method\":\"echo\",\"params\":["; damage = None }
unfolding cut
unfinished_message = refl

-- if a message has at most four bytes: four are a message, five are too many, finished or not
pub longest_message : cut_from 4 0 [] (codes "{  }{") ≡ record { messages = codes "{  }" ∷ []; rest = codes "{"; damage = None }
longest_message = refl

pub too_long_finished : cut_from 4 0 [] (codes "{   }") ≡ record { messages = []; rest = []; damage = Some TooLong }
too_long_finished = refl

pub too_long_unfinished : cut_from 4 0 [] (codes "{    ") ≡ record { messages = []; rest = []; damage = Some TooLong }
too_long_unfinished = refl

pub longest_unfinished : cut_from 4 0 [] (codes "{   ") ≡ record { messages = []; rest = codes "{   "; damage = None }
longest_unfinished = refl
