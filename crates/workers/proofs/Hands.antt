-- What a worker has in hand, from round to round.
use Rattle.std.proofs.Common.{◌≡◌, ℕ, ◌+◌, ◌≤◌, List, [], ◌∷◌, ◌++◌, length, refl, sym, ap, ◌∙◌, subst, arith, append-nil, length-append}
use Rattle.commitgate.specs.Named.{Named}
use Rattle.commitgate.specs.Seats.{SeatView}
use Rattle.commitgate.specs.Tickets.{TicketView}
use Rattle.eventpool.specs.Ends.{Owning, Stealing}
use Rattle.workers.specs.declared.batch.Filling.{Filling}
use Rattle.workers.specs.declared.batch.Filling.TheVariants.{More, Enough, Over}
use Rattle.workers.specs.declared.next_round.NextRound.{NextRound}
use Rattle.workers.specs.declared.next_round.NextRound.TheVariants.{GoesOn, Ends}
use Rattle.workers.specs.declared.worker.Worker.{Worker}
use Rattle.workers.specs.Keeping.{GotOne, GotNone, is_for, LosesNone, KeepsTickets, KeepsAll, Within, HasLostNone}
use Rattle.workers.specs.Batching.{KeepsOn, filling_after}
use Rattle.workers.specs.WorkerInvariant.{Goes}
use Rattle.workers.proofs.Weighing.{weigh_append}
use Rattle.workers.proofs.Kept.{kept_hand, kept_back, kept_looks, kept_put, kept_taken, kept_ends}

same_begin : {X : Type 0} (xs zs ys : List X) → xs ++ zs ≡ ys → length ys ≤ length xs + 0 → ys ≡ xs
same_begin xs [] ys p few = sym p ∙ append-nil xs
same_begin xs (z ∷ zs) ys p few = let l : length ys ≡ length xs + length (z ∷ zs) = ap length (sym p) ∙ length-append xs (z ∷ zs) in absurd (omega (arith, l, few))

-- a seat that goes on and appends nothing
pub kept_goes : {turns : ℕ} (n : Named) (placed : List TicketView) (s s' : SeatView) (o : Owning TicketView) (row : List (Stealing TicketView)) (due hand : List TicketView)
    → Goes turns 0 s s' → LosesNone n placed s o row due hand → LosesNone n placed s' o row due hand
kept_goes n placed s s' o row due hand goes k = kept_looks n placed s s' o row due hand goes.seen (same_begin s.positions goes.positions.0 s'.positions goes.positions.1 goes.few) k

module _ {A : Type 0} where
  -- a worker of which only what is counted changed
  pub keeps_row : (n : Named) (a b : Worker A) (hand hand' : List TicketView) → KeepsTickets n a.seat a.owner hand b.seat b.owner hand' → b.row.items ≡ a.row.items → KeepsAll n a hand b hand'
  keeps_row n a b hand hand' keeps row = record {
    all = λ placed k. subst (λ (r : List (Stealing TicketView)). LosesNone n placed b.seat b.owner r [] hand') (sym row) (keeps placed a.row.items k);
  }

  pub keeps_self : (n : Named) (a b : Worker A) (hand : List TicketView) → b.seat ≡ a.seat → b.owner ≡ a.owner → b.row.items ≡ a.row.items → KeepsAll n a hand b hand
  keeps_self n a b hand seat owner row = record {
    all = λ placed k.
        subst (λ (p : SeatView × Owning TicketView × List (Stealing TicketView)). LosesNone n placed p.0 p.1 p.2 [] hand) (λ i. (sym seat i, sym owner i, sym row i)) k;
  }

  pub keeps_nothing : (n : Named) (a : Worker A) → KeepsAll n a [] a []
  keeps_nothing n a = record { all = λ placed k. k }

  pub keeps_more : (n : Named) (a b c : Worker A) (hand more left : List TicketView) → KeepsAll n a hand b more → KeepsAll n b more c left → KeepsAll n a hand c left
  keeps_more n a b c hand more left f g = record { all = λ placed k. g.all placed (f.all placed k) }

  -- a worker that got a ticket, and serves it
  pub keeps_served : (n : Named) (a b c : Worker A) (ticket : TicketView) → b.seat ≡ a.seat → b.owner.put ≡ a.owner.put
      → GotOne a.owner a.row.items b.owner b.row.items ticket
      → KeepsAll n b (ticket ∷ []) c [] → KeepsAll n a [] c []
  keeps_served n a b c ticket seat put got keeps = record {
    all = λ placed k. keeps.all placed
        (subst (λ (s : SeatView). LosesNone n placed s b.owner b.row.items [] (ticket ∷ [])) (sym seat)
        (kept_taken n placed a.seat a.owner b.owner a.row.items b.row.items ticket [] [] got put k));
  }

  -- a worker that got none
  pub keeps_idle : (n : Named) (a b c : Worker A) → b.seat ≡ a.seat → b.owner.put ≡ a.owner.put
      → GotNone a.owner a.row.items b.owner b.row.items
      → KeepsAll n b [] c [] → KeepsAll n a [] c []
  keeps_idle n a b c seat put got keeps = record {
    all = λ placed k. keeps.all placed
        (subst (λ (s : SeatView). LosesNone n placed s b.owner b.row.items [] []) (sym seat)
        (kept_ends n placed a.seat a.owner b.owner a.row.items b.row.items [] [] got put k));
  }

  -- a ticket is offered with those of a batch
  pub keeps_offered : {turns : ℕ} (n : Named) (a b : Worker A) (tickets tickets' : List TicketView) (ticket : TicketView) → Goes turns 0 a.seat b.seat → b.owner ≡ a.owner → b.row.items ≡ a.row.items
      → tickets' ≡ tickets ++ ticket ∷ [] → KeepsAll n a (tickets ++ ticket ∷ []) b tickets'
  keeps_offered n a b tickets tickets' ticket goes owner row same = record {
    all = λ placed k.
        subst (λ (p : List TicketView × Owning TicketView × List (Stealing TicketView)). LosesNone n placed b.seat p.1 p.2 [] p.0) (λ i. (sym same i, sym owner i, sym row i))
        (kept_goes n placed a.seat b.seat a.owner a.row.items [] (tickets ++ ticket ∷ []) goes k);
  }

  -- a worker that only read, and goes on with what is in hand
  pub keeps_read : {turns : ℕ} (n : Named) (a b c : Worker A) (hand left : List TicketView) → Goes turns 0 a.seat b.seat → b.owner ≡ a.owner → b.row.items ≡ a.row.items
      → KeepsAll n b hand c left → KeepsAll n a hand c left
  keeps_read n a b c hand left goes owner row keeps = record {
    all = λ placed k. keeps.all placed
        (subst (λ (p : Owning TicketView × List (Stealing TicketView)). LosesNone n placed b.seat p.0 p.1 [] hand) (λ i. (sym owner i, sym row i))
        (kept_goes n placed a.seat b.seat a.owner a.row.items [] hand goes k));
  }

  -- what comes of a ticket that the batch doesn't get
  pub keeps_told : (n : Named) (after : NextRound) (a b : Worker A) (hand left : List TicketView) → (after ≡ GoesOn → left ≡ []) → (after ≡ GoesOn → KeepsAll n a hand b [])
      → KeepsOn n (filling_after after) a hand b left
  keeps_told n GoesOn a b hand left none keeps = subst (λ (l : List TicketView). KeepsAll n a hand b l) (sym (none refl)) (keeps refl)
  keeps_told n Ends a b hand left none keeps = tt

  -- a ticket that goes back into the deque
  pub keeps_back : (n : Named) (after : NextRound) (a b : Worker A) (tickets : List TicketView) (ticket : TicketView) → (after ≡ GoesOn → b.seat ≡ a.seat)
      → (after ≡ GoesOn → b.owner.put ≡ a.owner.put ++ ticket ∷ []) → b.owner.taken ≡ a.owner.taken → b.row.items ≡ a.row.items
      → KeepsOn n (filling_after after) a (tickets ++ ticket ∷ []) b tickets
  keeps_back n GoesOn a b tickets ticket seat put taken row = record {
    all = λ placed k.
        subst (λ (p : SeatView × List (Stealing TicketView)). LosesNone n placed p.0 b.owner p.1 [] tickets) (λ i. (sym (seat refl) i, sym row i))
        (kept_put n placed a.seat a.owner b.owner a.row.items (ticket ∷ []) [] tickets (put refl) taken
        (kept_back n placed a.seat a.owner a.row.items ticket ticket [] tickets refl
        (kept_hand n placed a.seat a.owner a.row.items [] [] (tickets ++ ticket ∷ []) (ticket ∷ tickets) (λ event. refl)
        (λ event. let p = weigh_append (is_for event) tickets (ticket ∷ []) in omega (arith, p)) k)));
  }
  keeps_back n Ends a b tickets ticket seat put taken row = tt

  -- it may go on with what it has in hand
  keeps_on : (n : Named) (next : Filling) (a b c : Worker A) (hand more left : List TicketView) → KeepsAll n a hand b more → KeepsOn n next b more c left → KeepsOn n next a hand c left
  keeps_on n More a b c hand more left f g = keeps_more n a b c hand more left f g
  keeps_on n Enough a b c hand more left f g = keeps_more n a b c hand more left f g
  keeps_on n Over a b c hand more left f g = tt

  -- the next ticket is taken
  pub keeps_extended : (n : Named) (next : Filling) (a b c : Worker A) (ticket : TicketView) (hand left : List TicketView) → b.seat ≡ a.seat → b.owner.put ≡ a.owner.put
      → GotOne a.owner a.row.items b.owner b.row.items ticket
      → KeepsOn n next b (hand ++ ticket ∷ []) c left → KeepsOn n next a hand c left
  keeps_extended n next a b c ticket hand left seat put got keeps = keeps_on n next a b c hand (hand ++ ticket ∷ []) left (record { all = taken }) keeps
    where
      taken : (placed : List TicketView) → LosesNone n placed a.seat a.owner a.row.items [] hand → LosesNone n placed b.seat b.owner b.row.items [] (hand ++ ticket ∷ [])
      taken placed k =
          kept_hand n placed b.seat b.owner b.row.items [] [] (ticket ∷ hand) (hand ++ ticket ∷ []) (λ event. refl)
          (λ event. let p = weigh_append (is_for event) hand (ticket ∷ []) in omega (arith, p))
          (subst (λ (s : SeatView). LosesNone n placed s b.owner b.row.items [] (ticket ∷ hand)) (sym seat)
          (kept_taken n placed a.seat a.owner b.owner a.row.items b.row.items ticket [] hand got put k))

  -- a batch that asked for more got more
  pub keeps_next : (n : Named) (next next' : Filling) (a b c : Worker A) (hand more left : List TicketView) → next ≡ More → KeepsOn n next a hand b more → KeepsOn n next' b more c left
      → KeepsOn n next' a hand c left
  keeps_next n next next' a b c hand more left is f g = keeps_on n next' a b c hand more left (subst (λ (m : Filling). KeepsOn n m a hand b more) is f) g

  -- the gate is told of a turn that is too long
  pub keeps_long : {turns : ℕ} (n : Named) (next : Filling) (after : NextRound) (a b c : Worker A) (tickets tickets' left : List TicketView) (ticket ticket' : TicketView)
      → next ≡ (filling_after after) → Goes turns 0 a.seat b.seat → b.owner ≡ a.owner → b.row.items ≡ a.row.items → tickets' ≡ tickets → ticket' ≡ ticket
      → (after ≡ GoesOn → left ≡ []) → (after ≡ GoesOn → KeepsAll n b (tickets' ++ ticket' ∷ []) c []) → KeepsOn n next a (tickets ++ ticket ∷ []) c left
  keeps_long n next after a b c tickets tickets' left ticket ticket' is goes owner row same back empty keeps =
      subst (λ (m : Filling). KeepsOn n m a (tickets ++ ticket ∷ []) c left) (sym is)
      (keeps_told n after a c (tickets ++ ticket ∷ []) left empty
      (λ on. keeps_read n a b c (tickets ++ ticket ∷ []) [] goes owner row
      (subst (λ (p : List TicketView × TicketView). KeepsAll n b (p.0 ++ p.1 ∷ []) c []) (λ i. (same i, back i)) (keeps on))))

  -- a ticket that is to be evaluated under the lock goes back
  pub keeps_held : (n : Named) (next : Filling) (after : NextRound) (a b : Worker A) (tickets : List TicketView) (ticket : TicketView) → next ≡ (filling_after after)
      → (after ≡ GoesOn → b.seat ≡ a.seat) → (after ≡ GoesOn → b.owner.put ≡ a.owner.put ++ ticket ∷ []) → b.owner.taken ≡ a.owner.taken → b.row.items ≡ a.row.items
      → KeepsOn n next a (tickets ++ ticket ∷ []) b tickets
  keeps_held n next after a b tickets ticket is seat put taken row =
      subst (λ (m : Filling). KeepsOn n m a (tickets ++ ticket ∷ []) b tickets) (sym is) (keeps_back n after a b tickets ticket seat put taken row)

  -- the first ticket of a batch is that in hand
  pub keeps_first : (n : Named) (next : Filling) (a b : Worker A) (tickets left : List TicketView) (ticket : TicketView) → tickets ≡ []
      → KeepsOn n next a (tickets ++ ticket ∷ []) b left → KeepsOn n next a (ticket ∷ []) b left
  keeps_first n next a b tickets left ticket none keeps = subst (λ (l : List TicketView). KeepsOn n next a (l ++ ticket ∷ []) b left) none keeps

  -- the turns of a batch are committed
  pub keeps_committed : (n : Named) (a b c : Worker A) (hand more : List TicketView) → KeepsAll n a hand b more → ((rest : List TicketView) → KeepsAll n b (more ++ rest) c rest) → KeepsAll n a hand c []
  keeps_committed n a b c hand more f g = keeps_more n a b c hand more [] f (subst (λ (l : List TicketView). KeepsAll n b l c []) (append-nil more) (g []))

  -- and a turn behind them was told
  pub keeps_behind : (n : Named) (a b c : Worker A) (more : List TicketView) (ticket : TicketView) → ((rest : List TicketView) → KeepsAll n a (more ++ rest) b rest) → KeepsAll n b (ticket ∷ []) c []
      → KeepsAll n a (more ++ ticket ∷ []) c []
  keeps_behind n a b c more ticket f g = keeps_more n a b c (more ++ ticket ∷ []) (ticket ∷ []) [] (f (ticket ∷ [])) g

  -- the last round of a worker that had lost none so far
  pub lost_none : (n : Named) (first last new : Worker A) (entries tickets : ℕ) → KeepsAll n first [] last [] → entries ≤ 16 → tickets ≤ 16 → Within entries tickets last new → HasLostNone n first new
  lost_none n first last new entries tickets keeps few less within placed k = (
    last,
    keeps.all placed k,
    record {
      later = within.later;
      entries_few = (let e = within.entries_few in omega (arith, e, few));
      tickets_few = (let t = within.tickets_few in omega (arith, t, less));
    },
  )
