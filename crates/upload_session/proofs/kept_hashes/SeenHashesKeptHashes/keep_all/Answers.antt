use Rattle.std.proofs.Common.{◌≡◌, not, ◌&&◌, ◌||◌, List, sym, ap, ◌∙◌}
use Rattle.upload_session.specs.Hashes.{Hash, hashes_of, is_among, AreBoth}
use Rattle.upload_session.proofs.kept_hashes.SeenHashesKeptHashes.keep_all.Goals as goal

pub returns-clause-kept : goal.returns-clause-kept
returns-clause-kept g c = λ known more all knows others are.
    let listed : hashes_of c.in_ok-chunks.chunks.items ≡ c.in_ok-hashes.hashes.items = c.in_ok-chunks.ensures ∙ c.deref.ensures.value in
    let same : (hash : Hash) → is_among more hash ≡ is_among (hashes_of c.in_ok-chunks.chunks.items) hash =
    λ hash. sym (others hash) ∙ c.in_ok-hashes.ensures.all hash ∙ ap (λ l. is_among l hash) (sym listed) in
    c.in_ok-keep.ensures.kept known all knows
    (λ hash. are hash ∙ ap (λ b. is_among known hash || b) (same hash ∙ ap (λ l. is_among (hashes_of l) hash) (sym c.deref-2.ensures.value)))

pub returns-clause-new : goal.returns-clause-new
returns-clause-new g c = λ known more knows others.
    let listed : hashes_of c.in_ok-chunks.chunks.items ≡ c.in_ok-hashes.hashes.items = c.in_ok-chunks.ensures ∙ c.deref.ensures.value in
    let same : (hash : Hash) → is_among (hashes_of c.in_ok-chunks.chunks.items) hash ≡ is_among more hash =
    λ hash. ap (λ l. is_among l hash) listed ∙ sym (c.in_ok-hashes.ensures.all hash) ∙ others hash in
    let told = c.in_ok-keep.ensures.new known knows in
    record {
      each_once = told.each_once;
      among = λ hash. told.among hash ∙ ap (λ b. b && not (is_among known hash))
          (ap (λ l. is_among (hashes_of l) hash) c.deref-2.ensures.value ∙ same hash);
    }

pub returns-clause-others : goal.returns-clause-others
returns-clause-others g c = (c.in_ok-hashes.hashes.items, c.in_ok-hashes.ensures.all)
