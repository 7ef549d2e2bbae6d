use Rattle.std.proofs.lemmas.Result.{on_ok_weaker}
use Rattle.amm_cert.proofs.certificate_writer.send_certificate.Goals as goal

pub returns : goal.returns
returns g c =
    let s = rw c.s.ensures.token at c.in_ok-send_token.ensures in
    let t = rw c.t.ensures.token at c.in_ok-send_token-2.ensures in
    let d = rw c.d.ensures.value at c.in_ok-u64-2.ensures in
    let pools = rw c.pools.ensures.list at c.in_ok-send_pools.ensures in
    on_ok_weaker c.end_seq.result
    (λ ended. (
      _,
      c.in_ok-begin_seq.ensures,
      (
        _,
        c.in_ok-str.ensures,
        (
          _,
          c.in_ok-u64.ensures,
          (
            _,
            s,
            (
              _,
              t,
              (
                _,
                d,
                (
                  _,
                  pools,
                  (_, c.in_ok-send_prices.ensures, (_, c.in_ok-send_legs.ensures, (_, c.in_ok-u64-3.ensures, (_, c.in_ok-send_wide.ensures, ended)))),
                ),
              ),
            ),
          ),
        ),
      ),
    ))
    c.end_seq.ensures
