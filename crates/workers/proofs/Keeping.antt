-- What was put, and what is to be put.
use Rattle.std.proofs.Common.{◌≡◌, List, [], ◌∷◌, ◌++◌, sym, ap, ◌∙◌, append_assoc, append-nil}
use Rattle.commitgate.specs.Tickets.{TicketView}
use Rattle.commitgate.specs.declared.reply.Grant.{Grant}
use Rattle.commitgate.specs.declared.reply.Reply.{Reply}
use Rattle.eventpool.specs.Ends.{Owning, owner_card}
use Rattle.workers.specs.WorkerInvariant.{OnlyPuts, tickets_in, tickets_of, granted_by}
use Rattle.workers.proofs.Seats.{begins_more}

-- one of several was put
pub put_one : {T : Type 0} (put put' left left' all : List T) (x : T) → left ≡ x ∷ left' → put' ≡ put ++ x ∷ [] → put ++ left ≡ all → put' ++ left' ≡ all
put_one put put' left left' all x is more so_far =
    ap (λ l. l ++ left') more ∙ append_assoc put (x ∷ []) left' ∙ ap (λ l. put ++ l) (sym is) ∙ so_far

-- nothing is left to be put
pub put_all : {T : Type 0} (put left all : List T) → left ≡ [] → put ++ left ≡ all → put ≡ all
put_all put left all none so_far = sym (append-nil put) ∙ ap (λ l. put ++ l) (sym none) ∙ so_far

-- what one of several answers gives was put
pub put_answer : {A : Type 0} (put put' : List TicketView) (left left' : List (Reply A)) (all : List TicketView) (reply : Reply A)
    → left ≡ reply ∷ left' → put' ≡ put ++ tickets_in reply → put ++ tickets_of left ≡ all → put' ++ tickets_of left' ≡ all
put_answer put put' left left' all reply is more so_far =
    ap (λ l. l ++ tickets_of left') more ∙ append_assoc put (tickets_in reply) (tickets_of left') ∙ ap (λ l. put ++ tickets_of l) (sym is) ∙ so_far

pub put_answers : {A : Type 0} (put : List TicketView) (left : List (Reply A)) (all : List TicketView) → left ≡ [] → put ++ tickets_of left ≡ all → put ≡ all
put_answers put left all none so_far = sym (append-nil put) ∙ ap (λ l. put ++ tickets_of l) (sym none) ∙ so_far

-- the tickets of one of several grants were put
pub put_grant : {A : Type 0} (put put' : List TicketView) (left left' : List (Grant A)) (all : List TicketView) (grant : Grant A)
    → left ≡ grant ∷ left' → put' ≡ put ++ grant.tickets.items → put ++ granted_by left ≡ all → put' ++ granted_by left' ≡ all
put_grant put put' left left' all grant is more so_far =
    ap (λ l. l ++ granted_by left') more ∙ append_assoc put grant.tickets.items (granted_by left') ∙ ap (λ l. put ++ granted_by l) (sym is) ∙ so_far

pub put_grants : {A : Type 0} (put : List TicketView) (left : List (Grant A)) (all : List TicketView) → left ≡ [] → put ++ granted_by left ≡ all → put ≡ all
put_grants put left all none so_far = sym (append-nil put) ∙ ap (λ l. put ++ granted_by l) (sym none) ∙ so_far

-- tickets were put, and then more
pub puts_then : {T : Type 0} (a b c : Owning T) → OnlyPuts a b → OnlyPuts b c → OnlyPuts a c
puts_then a b c f g = (g.0 ∙ f.0, g.1 ∙ f.1, begins_more a.put b.put c.put f.2 g.2)

pub puts_none : {T : Type 0} (a b : Owning T) → b ≡ a → OnlyPuts a b
puts_none a b same = (ap owner_card same, ap (λ (o : Owning _). o.taken) same, ([], append-nil a.put ∙ ap (λ (o : Owning _). o.put) (sym same)))

pub puts_one : {T : Type 0} (a b : Owning T) (x : T) → b ≡ record a { put = a.put ++ x ∷ [] } → OnlyPuts a b
puts_one a b x is = (ap owner_card is, ap (λ (o : Owning _). o.taken) is, (x ∷ [], ap (λ (o : Owning _). o.put) (sym is)))
